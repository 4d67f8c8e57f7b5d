-- A command that is written is read as the same.
use Rattle.std.proofs.Common.{◌≡◌, ℕ, false, List, [], ◌∷◌, Result, Ok, Err, refl, ap, ◌∙◌, subst, inl, inr}
use Rattle.std.specs.Fmt.{decimal}
use Rattle.std.proofs.lemmas.Bool.{cases_Bool}
use Rattle.hex.specs.Hex.{encode_lower}
use Rattle.n41_types.specs.declared.commands.Command.{Command}
use Rattle.n41_words.specs.Lines.{words}
use Rattle.n41_words.specs.Words.{has_control}
use Rattle.n41_words.specs.declared.fault.LineKind.{LineKind}
use Rattle.n41_commands.specs.Paths.{path, target, path_text}
use Rattle.n41_commands.specs.Commands.{onward, next, ended, label, mode_of, kind_of, offset, count, seconds, extent, payload, command_with, verb_text, verb_of, command_of}
use Rattle.n41_commands.specs.declared.verb.Verb.{Verb}
use Rattle.n41_commands.specs.declared.verb.Verb.TheVariants as verb
use Rattle.n41_written.specs.Written.{◌·◌, mode_text, kind_text, extent_text, command_text, ReadsWhatIsWritten}
use Rattle.n41_written.proofs.Words.{IsWord, IsPlain, AreWords, are_words, first_words, last_words}
use Rattle.n41_written.proofs.Forms.{ReadsBack, label_back, mode_back, kind_back, offset_back, count_back, seconds_back, extent_back, path_back, target_back, payload_back}

-- ---- words that were read

-- the next word said this value, and what stands behind it went on
record Took {X Y : Type 0} (form : List ℕ → Result X LineKind) (text : X → List ℕ) (go : X → List (List ℕ) → Result Y LineKind) (c : Y) : Type 0 where
  value : X
  left : List (List ℕ)
  plain : IsPlain (text value)
  reads : form (text value) ≡ Ok value
  left_words : AreWords left
  rest : go value left ≡ Ok c

took_value : {X Y : Type 0} (form : List ℕ → Result X LineKind) (text : X → List ℕ) (go : X → List (List ℕ) → Result Y LineKind) (c : Y) → ReadsBack form text →
    (w : List ℕ) (ws : List (List ℕ)) → IsPlain w → AreWords ws → (r : Result X LineKind) → form w ≡ r → onward r (λ x. go x ws) ≡ Ok c → Took form text go c
took_value form text go c back w ws g a (Ok x) e h =
    let k = back w x g e in
    record { value = x; left = ws; plain = k.0; reads = k.1; left_words = a; rest = h }
took_value form text go c back w ws g a (Err k) e h = absurd cc

took : {X Y : Type 0} (form : List ℕ → Result X LineKind) (text : X → List ℕ) (go : X → List (List ℕ) → Result Y LineKind) (c : Y) → ReadsBack form text →
    (ws : List (List ℕ)) → AreWords ws → next false ws form go ≡ Ok c → Took form text go c
took form text go c back [] a h = absurd cc
took form text go c back (w ∷ ws) a h = elim (cases_Bool (has_control w)) [
  | inl e ↦ absurd (let f = rw e at h in cc)
  | inr e ↦ took_value form text go c back w ws (record { word = a.0; plain = e }) a.1 (form w) refl (rw e at h)
]

done : {Y : Type 0} (ws : List (List ℕ)) (y c : Y) → ended false ws y ≡ Ok c → y ≡ c
done [] y c h = cc
done (w ∷ ws) y c h = absurd cc

-- ---- words that are written

reads_word : {X Y : Type 0} (form : List ℕ → Result X LineKind) (go : X → List (List ℕ) → Result Y LineKind) (w : List ℕ) (ws : List (List ℕ)) (x : X) →
    has_control w ≡ false → form w ≡ Ok x → next false (w ∷ ws) form go ≡ go x ws
reads_word form go w ws x e h = rw (e, h) refl

next_word : {X Y : Type 0} (form : List ℕ → Result X LineKind) (go : X → List (List ℕ) → Result Y LineKind) (w rest : List ℕ) (x : X) →
    IsPlain w → form w ≡ Ok x → next false (words (w · rest)) form go ≡ go x (words rest)
next_word form go w rest x g h =
    ap (λ (ws : List (List ℕ)). next false ws form go) (first_words w rest g.word) ∙ reads_word form go w (words rest) x g.plain h

last_word : {X Y : Type 0} (form : List ℕ → Result X LineKind) (go : X → List (List ℕ) → Result Y LineKind) (w : List ℕ) (x : X) →
    IsPlain w → form w ≡ Ok x → next false (words w) form go ≡ go x []
last_word form go w x g h =
    ap (λ (ws : List (List ℕ)). next false ws form go) (last_words w g.word) ∙ reads_word form go w [] x g.plain h

verb_is_word : (v : Verb) → IsWord (verb_text v)
verb_is_word verb.Create = record { filled = refl; whole = refl }
verb_is_word _ = record { filled = refl; whole = refl }

verb_is_read : (v : Verb) (ws : List (List ℕ)) → command_of false (verb_text v ∷ ws) ≡ command_with v false ws
verb_is_read verb.Create ws = refl
verb_is_read _ ws = refl

said : (v : Verb) (rest : List ℕ) → command_of false (words (verb_text v · rest)) ≡ command_with v false (words rest)
said v rest = ap (command_of false) (first_words (verb_text v) rest (verb_is_word v)) ∙ verb_is_read v (words rest)

-- ---- each verb

abbrev IsSaid : Command → Type 0
IsSaid c = command_of false (words (command_text c)) ≡ Ok c

created : (ws : List (List ℕ)) (c : Command) → AreWords ws → command_with verb.Create false ws ≡ Ok c → IsSaid c
created ws c a h =
    let l = took label (λ (l : List ℕ). l) _ c label_back ws a h in
    let p = took target path_text _ c target_back l.left l.left_words l.rest in
    subst IsSaid (done p.left _ c p.rest)
    (said verb.Create (l.value · path_text p.value)
    ∙ next_word label _ l.value (path_text p.value) l.value l.plain l.reads
    ∙ last_word target _ (path_text p.value) p.value p.plain p.reads)

created_anew : (ws : List (List ℕ)) (c : Command) → AreWords ws → command_with verb.New false ws ≡ Ok c → IsSaid c
created_anew ws c a h =
    let l = took label (λ (l : List ℕ). l) _ c label_back ws a h in
    let p = took target path_text _ c target_back l.left l.left_words l.rest in
    subst IsSaid (done p.left _ c p.rest)
    (said verb.New (l.value · path_text p.value)
    ∙ next_word label _ l.value (path_text p.value) l.value l.plain l.reads
    ∙ last_word target _ (path_text p.value) p.value p.plain p.reads)

opened : (ws : List (List ℕ)) (c : Command) → AreWords ws → command_with verb.Open false ws ≡ Ok c → IsSaid c
opened ws c a h =
    let l = took label (λ (l : List ℕ). l) _ c label_back ws a h in
    let p = took path path_text _ c path_back l.left l.left_words l.rest in
    let m = took mode_of mode_text _ c mode_back p.left p.left_words p.rest in
    subst IsSaid (done m.left _ c m.rest)
    (said verb.Open (l.value · (path_text p.value · mode_text m.value))
    ∙ next_word label _ l.value (path_text p.value · mode_text m.value) l.value l.plain l.reads
    ∙ next_word path _ (path_text p.value) (mode_text m.value) p.value p.plain p.reads
    ∙ last_word mode_of _ (mode_text m.value) m.value m.plain m.reads)

read : (ws : List (List ℕ)) (c : Command) → AreWords ws → command_with verb.Read false ws ≡ Ok c → IsSaid c
read ws c a h =
    let l = took label (λ (l : List ℕ). l) _ c label_back ws a h in
    let o = took offset decimal _ c offset_back l.left l.left_words l.rest in
    let n = took count decimal _ c count_back o.left o.left_words o.rest in
    subst IsSaid (done n.left _ c n.rest)
    (said verb.Read (l.value · (decimal o.value · decimal n.value))
    ∙ next_word label _ l.value (decimal o.value · decimal n.value) l.value l.plain l.reads
    ∙ next_word offset _ (decimal o.value) (decimal n.value) o.value o.plain o.reads
    ∙ last_word count _ (decimal n.value) n.value n.plain n.reads)

wrote : (ws : List (List ℕ)) (c : Command) → AreWords ws → command_with verb.Write false ws ≡ Ok c → IsSaid c
wrote ws c a h =
    let l = took label (λ (l : List ℕ). l) _ c label_back ws a h in
    let o = took offset decimal _ c offset_back l.left l.left_words l.rest in
    let b = took payload encode_lower _ c payload_back o.left o.left_words o.rest in
    subst IsSaid (done b.left _ c b.rest)
    (said verb.Write (l.value · (decimal o.value · encode_lower b.value))
    ∙ next_word label _ l.value (decimal o.value · encode_lower b.value) l.value l.plain l.reads
    ∙ next_word offset _ (decimal o.value) (encode_lower b.value) o.value o.plain o.reads
    ∙ last_word payload _ (encode_lower b.value) b.value b.plain b.reads)

locked : (ws : List (List ℕ)) (c : Command) → AreWords ws → command_with verb.Lock false ws ≡ Ok c → IsSaid c
locked ws c a h =
    let l = took label (λ (l : List ℕ). l) _ c label_back ws a h in
    let k = took kind_of kind_text _ c kind_back l.left l.left_words l.rest in
    let o = took offset decimal _ c offset_back k.left k.left_words k.rest in
    let n = took extent extent_text _ c extent_back o.left o.left_words o.rest in
    subst IsSaid (done n.left _ c n.rest)
    (said verb.Lock (l.value · (kind_text k.value · (decimal o.value · extent_text n.value)))
    ∙ next_word label _ l.value (kind_text k.value · (decimal o.value · extent_text n.value)) l.value l.plain l.reads
    ∙ next_word kind_of _ (kind_text k.value) (decimal o.value · extent_text n.value) k.value k.plain k.reads
    ∙ next_word offset _ (decimal o.value) (extent_text n.value) o.value o.plain o.reads
    ∙ last_word extent _ (extent_text n.value) n.value n.plain n.reads)

unlocked : (ws : List (List ℕ)) (c : Command) → AreWords ws → command_with verb.Unlock false ws ≡ Ok c → IsSaid c
unlocked ws c a h =
    let l = took label (λ (l : List ℕ). l) _ c label_back ws a h in
    let o = took offset decimal _ c offset_back l.left l.left_words l.rest in
    let n = took extent extent_text _ c extent_back o.left o.left_words o.rest in
    subst IsSaid (done n.left _ c n.rest)
    (said verb.Unlock (l.value · (decimal o.value · extent_text n.value))
    ∙ next_word label _ l.value (decimal o.value · extent_text n.value) l.value l.plain l.reads
    ∙ next_word offset _ (decimal o.value) (extent_text n.value) o.value o.plain o.reads
    ∙ last_word extent _ (extent_text n.value) n.value n.plain n.reads)

tried_to_lock : (ws : List (List ℕ)) (c : Command) → AreWords ws → command_with verb.TestLock false ws ≡ Ok c → IsSaid c
tried_to_lock ws c a h =
    let l = took label (λ (l : List ℕ). l) _ c label_back ws a h in
    let k = took kind_of kind_text _ c kind_back l.left l.left_words l.rest in
    let o = took offset decimal _ c offset_back k.left k.left_words k.rest in
    let n = took extent extent_text _ c extent_back o.left o.left_words o.rest in
    subst IsSaid (done n.left _ c n.rest)
    (said verb.TestLock (l.value · (kind_text k.value · (decimal o.value · extent_text n.value)))
    ∙ next_word label _ l.value (kind_text k.value · (decimal o.value · extent_text n.value)) l.value l.plain l.reads
    ∙ next_word kind_of _ (kind_text k.value) (decimal o.value · extent_text n.value) k.value k.plain k.reads
    ∙ next_word offset _ (decimal o.value) (extent_text n.value) o.value o.plain o.reads
    ∙ last_word extent _ (extent_text n.value) n.value n.plain n.reads)

truncated : (ws : List (List ℕ)) (c : Command) → AreWords ws → command_with verb.Truncate false ws ≡ Ok c → IsSaid c
truncated ws c a h =
    let l = took label (λ (l : List ℕ). l) _ c label_back ws a h in
    let n = took offset decimal _ c offset_back l.left l.left_words l.rest in
    subst IsSaid (done n.left _ c n.rest)
    (said verb.Truncate (l.value · decimal n.value)
    ∙ next_word label _ l.value (decimal n.value) l.value l.plain l.reads
    ∙ last_word offset _ (decimal n.value) n.value n.plain n.reads)

closed : (ws : List (List ℕ)) (c : Command) → AreWords ws → command_with verb.Close false ws ≡ Ok c → IsSaid c
closed ws c a h =
    let l = took label (λ (l : List ℕ). l) _ c label_back ws a h in
    subst IsSaid (done l.left _ c l.rest) (said verb.Close l.value ∙ last_word label _ l.value l.value l.plain l.reads)

looked_at : (ws : List (List ℕ)) (c : Command) → AreWords ws → command_with verb.Stat false ws ≡ Ok c → IsSaid c
looked_at ws c a h =
    let p = took path path_text _ c path_back ws a h in
    subst IsSaid (done p.left _ c p.rest) (said verb.Stat (path_text p.value) ∙ last_word path _ (path_text p.value) p.value p.plain p.reads)

listed : (ws : List (List ℕ)) (c : Command) → AreWords ws → command_with verb.List false ws ≡ Ok c → IsSaid c
listed ws c a h =
    let p = took path path_text _ c path_back ws a h in
    subst IsSaid (done p.left _ c p.rest) (said verb.List (path_text p.value) ∙ last_word path _ (path_text p.value) p.value p.plain p.reads)

made : (ws : List (List ℕ)) (c : Command) → AreWords ws → command_with verb.MakeDir false ws ≡ Ok c → IsSaid c
made ws c a h =
    let p = took target path_text _ c target_back ws a h in
    subst IsSaid (done p.left _ c p.rest) (said verb.MakeDir (path_text p.value) ∙ last_word target _ (path_text p.value) p.value p.plain p.reads)

removed : (ws : List (List ℕ)) (c : Command) → AreWords ws → command_with verb.Remove false ws ≡ Ok c → IsSaid c
removed ws c a h =
    let p = took target path_text _ c target_back ws a h in
    subst IsSaid (done p.left _ c p.rest) (said verb.Remove (path_text p.value) ∙ last_word target _ (path_text p.value) p.value p.plain p.reads)

renamed : (ws : List (List ℕ)) (c : Command) → AreWords ws → command_with verb.Rename false ws ≡ Ok c → IsSaid c
renamed ws c a h =
    let p = took target path_text _ c target_back ws a h in
    let q = took target path_text _ c target_back p.left p.left_words p.rest in
    subst IsSaid (done q.left _ c q.rest)
    (said verb.Rename (path_text p.value · path_text q.value)
    ∙ next_word target _ (path_text p.value) (path_text q.value) p.value p.plain p.reads
    ∙ last_word target _ (path_text q.value) q.value q.plain q.reads)

paused : (ws : List (List ℕ)) (c : Command) → AreWords ws → command_with verb.Pause false ws ≡ Ok c → IsSaid c
paused ws c a h =
    let s = took seconds decimal _ c seconds_back ws a h in
    subst IsSaid (done s.left _ c s.rest) (said verb.Pause (decimal s.value) ∙ last_word seconds _ (decimal s.value) s.value s.plain s.reads)

-- ---- all of them

of_verb : (v : Verb) (ws : List (List ℕ)) (c : Command) → AreWords ws → command_with v false ws ≡ Ok c → IsSaid c
of_verb verb.Create = created
of_verb verb.New = created_anew
of_verb verb.Open = opened
of_verb verb.Read = read
of_verb verb.Write = wrote
of_verb verb.Lock = locked
of_verb verb.Unlock = unlocked
of_verb verb.TestLock = tried_to_lock
of_verb verb.Truncate = truncated
of_verb verb.Close = closed
of_verb verb.Stat = looked_at
of_verb verb.List = listed
of_verb verb.MakeDir = made
of_verb verb.Remove = removed
of_verb verb.Rename = renamed
of_verb verb.Pause = paused

of_first : (r : Result Verb LineKind) (ws : List (List ℕ)) (c : Command) → AreWords ws → onward r (λ v. command_with v false ws) ≡ Ok c → IsSaid c
of_first (Ok v) ws c a h = of_verb v ws c a h
of_first (Err k) ws c a h = absurd cc

of_words : (ws : List (List ℕ)) (c : Command) → AreWords ws → command_of false ws ≡ Ok c → IsSaid c
of_words [] c a h = absurd cc
of_words (w ∷ ws) c a h = elim (cases_Bool (has_control w)) [
  | inl e ↦ absurd (let f = rw e at h in cc)
  | inr e ↦ of_first (verb_of w) ws c a.1 (rw e at h)
]

pub reads_what_is_written : ReadsWhatIsWritten
reads_what_is_written line c h = of_words (words line) c (are_words line) h
