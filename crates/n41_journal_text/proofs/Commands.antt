-- In the words that say a command no control stands.
use Rattle.std.proofs.Common.{◌≡◌, ℕ, false, List, [], ◌∷◌, Result, Ok, Err, refl, inl, inr}
use Rattle.std.proofs.lemmas.Bool.{cases_Bool}
use Rattle.n41_types.specs.declared.commands.Command.{Command}
use Rattle.n41_words.specs.Lines.{words}
use Rattle.n41_words.specs.Words.{has_control}
use Rattle.n41_words.specs.declared.fault.LineKind.{LineKind}
use Rattle.n41_commands.specs.Paths.{path, target}
use Rattle.n41_commands.specs.Commands.{onward, next, ended, label, mode_of, kind_of, offset, count, seconds, extent, payload, command_with, verb_of, command_of}
use Rattle.n41_commands.specs.declared.verb.Verb.{Verb}
use Rattle.n41_commands.specs.declared.verb.Verb.TheVariants as verb
use Rattle.n41_written.specs.Written.{command_text}
use Rattle.n41_journal_text.specs.Words.{IsSaid}
use Rattle.n41_journal_text.proofs.Says.{Says, AreTold}

-- the next word is told, and what stands behind it went on
record Next {X Y : Type 0} (ws : List (List ℕ)) (go : X → List (List ℕ) → Result Y LineKind) (c : Y) : Type 0 where
  value : X
  left : List (List ℕ)
  rest : go value left ≡ Ok c
  told : AreTold left → AreTold ws

next_value : {X Y : Type 0} (go : X → List (List ℕ) → Result Y LineKind) (c : Y) (w : List ℕ) (ws : List (List ℕ)) → has_control w ≡ false →
    (r : Result X LineKind) → onward r (λ x. go x ws) ≡ Ok c → Next (w ∷ ws) go c
next_value go c w ws e (Ok x) h = record { value = x; left = ws; rest = h; told = λ k. (e, k) }
next_value go c w ws e (Err k) h = absurd cc

taken : {X Y : Type 0} (form : List ℕ → Result X LineKind) (go : X → List (List ℕ) → Result Y LineKind) (c : Y) (ws : List (List ℕ)) →
    next false ws form go ≡ Ok c → Next ws go c
taken form go c [] h = absurd cc
taken form go c (w ∷ ws) h = elim (cases_Bool (has_control w)) [
  | inl e ↦ absurd (let f = rw e at h in cc)
  | inr e ↦ next_value go c w ws e (form w) (rw e at h)
]

done : {Y : Type 0} (ws : List (List ℕ)) (y c : Y) → ended false ws y ≡ Ok c → AreTold ws
done [] y c h = tt
done (w ∷ ws) y c h = absurd cc

of_verb : (v : Verb) (ws : List (List ℕ)) (c : Command) → command_with v false ws ≡ Ok c → AreTold ws
of_verb verb.Create ws c h =
    let l = taken label _ c ws h in
    let p = taken target _ c l.left l.rest in
    l.told (p.told (done p.left _ c p.rest))
of_verb verb.New ws c h =
    let l = taken label _ c ws h in
    let p = taken target _ c l.left l.rest in
    l.told (p.told (done p.left _ c p.rest))
of_verb verb.Open ws c h =
    let l = taken label _ c ws h in
    let p = taken path _ c l.left l.rest in
    let m = taken mode_of _ c p.left p.rest in
    l.told (p.told (m.told (done m.left _ c m.rest)))
of_verb verb.Read ws c h =
    let l = taken label _ c ws h in
    let o = taken offset _ c l.left l.rest in
    let n = taken count _ c o.left o.rest in
    l.told (o.told (n.told (done n.left _ c n.rest)))
of_verb verb.Write ws c h =
    let l = taken label _ c ws h in
    let o = taken offset _ c l.left l.rest in
    let b = taken payload _ c o.left o.rest in
    l.told (o.told (b.told (done b.left _ c b.rest)))
of_verb verb.Lock ws c h =
    let l = taken label _ c ws h in
    let k = taken kind_of _ c l.left l.rest in
    let o = taken offset _ c k.left k.rest in
    let n = taken extent _ c o.left o.rest in
    l.told (k.told (o.told (n.told (done n.left _ c n.rest))))
of_verb verb.Unlock ws c h =
    let l = taken label _ c ws h in
    let o = taken offset _ c l.left l.rest in
    let n = taken extent _ c o.left o.rest in
    l.told (o.told (n.told (done n.left _ c n.rest)))
of_verb verb.TestLock ws c h =
    let l = taken label _ c ws h in
    let k = taken kind_of _ c l.left l.rest in
    let o = taken offset _ c k.left k.rest in
    let n = taken extent _ c o.left o.rest in
    l.told (k.told (o.told (n.told (done n.left _ c n.rest))))
of_verb verb.Truncate ws c h =
    let l = taken label _ c ws h in
    let n = taken offset _ c l.left l.rest in
    l.told (n.told (done n.left _ c n.rest))
of_verb verb.Close ws c h =
    let l = taken label _ c ws h in
    l.told (done l.left _ c l.rest)
of_verb verb.Stat ws c h =
    let p = taken path _ c ws h in
    p.told (done p.left _ c p.rest)
of_verb verb.List ws c h =
    let p = taken path _ c ws h in
    p.told (done p.left _ c p.rest)
of_verb verb.MakeDir ws c h =
    let p = taken target _ c ws h in
    p.told (done p.left _ c p.rest)
of_verb verb.Remove ws c h =
    let p = taken target _ c ws h in
    p.told (done p.left _ c p.rest)
of_verb verb.Rename ws c h =
    let p = taken target _ c ws h in
    let q = taken target _ c p.left p.rest in
    p.told (q.told (done q.left _ c q.rest))
of_verb verb.Pause ws c h =
    let s = taken seconds _ c ws h in
    s.told (done s.left _ c s.rest)

of_first : (r : Result Verb LineKind) (ws : List (List ℕ)) (c : Command) → onward r (λ v. command_with v false ws) ≡ Ok c → AreTold ws
of_first (Ok v) ws c h = of_verb v ws c h
of_first (Err k) ws c h = absurd cc

of_words : (ws : List (List ℕ)) (c : Command) → command_of false ws ≡ Ok c → AreTold ws
of_words [] c h = absurd cc
of_words (w ∷ ws) c h = elim (cases_Bool (has_control w)) [
  | inl e ↦ absurd (let f = rw e at h in cc)
  | inr e ↦ (e, of_first (verb_of w) ws c (rw e at h))
]

pub command_says : (c : Command) → IsSaid c → Says (command_text c) (words (command_text c))
command_says c h = record { words_are = refl; told = of_words (words (command_text c)) c h }
