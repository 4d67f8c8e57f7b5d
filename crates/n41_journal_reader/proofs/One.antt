-- A text says one thing.
use Rattle.std.proofs.Common.{◌≡◌, ◌<◌, ℕ, zero, suc, not, Bool, true, false, if◌then◌else◌, List, [], ◌∷◌, take, slice_get, Option, Some, None, Result, Ok, Err, refl, ap, sym, subst, ◌∙◌, inl, inr, arith}
use Rattle.std.proofs.lemmas.Bool.{cases_order}
use Rattle.n41_types.specs.declared.plans.Request.{Request}
use Rattle.n41_compound.specs.Calls.{seen_of}
use Rattle.n41_compound.proofs.OneRequest.{one_request}
use Rattle.n41_journal.specs.declared.events.Event.{Event}
use Rattle.n41_words.specs.Lines.{lines, words, is_skipped}
use Rattle.n41_words.specs.declared.fault.LineKind.{LineKind}
use Rattle.n41_journal_words.specs.Reading.{form_at}
use Rattle.n41_journal_reader.specs.Messages.{IsCallOf, IsFoundIn}
use Rattle.n41_journal_reader.specs.Events.{first_of, bytes_at, put_of, SaysPut, SaysBehind, SaysFirst, Says}
use Rattle.n41_journal_reader.specs.Journals.{SaysEvent, IsRefused, told_lines, SayEach, IsFirstRefused}
use Rattle.n41_journal_reader.specs.declared.first.First.{First}
use Rattle.n41_journal_reader.specs.declared.first.First.TheVariants as first

-- ---- a line

same_call : (bytes : List ℕ) (q r : Request) → IsCallOf bytes q → IsCallOf bytes r → q ≡ r
same_call bytes q r h g =
    let both : Ok (seen_of q) ≡ Ok (seen_of r) = sym h.is_seen ∙ g.is_seen in
    let seen : seen_of q ≡ seen_of r = cc both in
    one_request (seen_of q) q r h.lawful g.lawful refl seen

found_once : (bytes : List ℕ) (o p : Option Request) → IsFoundIn bytes o → IsFoundIn bytes p → o ≡ p
found_once bytes None None h g = refl
found_once bytes None (Some r) h g = absurd (h r g)
found_once bytes (Some q) None h g = absurd (g q h)
found_once bytes (Some q) (Some r) h g = ap Some (same_call bytes q r h g)

put_once : (x : Result (((ℕ × ℕ) × List ℕ) × List (List ℕ)) LineKind) (r s : Result Event LineKind) → SaysPut x r → SaysPut x s → r ≡ s
put_once (Err k) r s h g = sym h ∙ g
put_once (Ok x) r s h g = sym h.2 ∙ ap (λ (o : Option Request). put_of o x.0.0 x.1) (found_once x.0.1 h.0 g.0 h.1 g.1) ∙ g.2

behind_once : (f : First) (ws : List (List ℕ)) (r s : Result Event LineKind) → SaysBehind f ws r → SaysBehind f ws s → r ≡ s
behind_once first.Put ws r s h g = put_once (bytes_at ws) r s h g
behind_once _ ws r s h g = sym h ∙ g

first_once : (f : Result (First × List (List ℕ)) LineKind) (r s : Result Event LineKind) → SaysFirst f r → SaysFirst f s → r ≡ s
first_once (Err k) r s h g = sym h ∙ g
first_once (Ok f) r s h g = behind_once f.0 f.1 r s h g

says_once : (ws : List (List ℕ)) (r s : Result Event LineKind) → Says ws r → Says ws s → r ≡ s
says_once ws r s h g = first_once (form_at first_of ws) r s h g

same_event : (line : List ℕ) (e f : Event) → SaysEvent line e → SaysEvent line f → e ≡ f
same_event line e f h g = let both : Ok e ≡ Ok f = says_once (words line) (Ok e) (Ok f) h g in cc both

same_fault : (line : List ℕ) (j k : LineKind) → IsRefused line j → IsRefused line k → j ≡ k
same_fault line j k h g = let both : Err j ≡ Err k = says_once (words line) (Err j) (Err k) h g in cc both

not_both : (line : List ℕ) (e : Event) (k : LineKind) → SaysEvent line e → IsRefused line k → ⊥
not_both line e k h g = let both : Ok e ≡ Err k = says_once (words line) (Ok e) (Err k) h g in absurd (cc both)

-- ---- lines

pub same_events : (ls : List (List ℕ)) (es fs : List Event) → SayEach ls es → SayEach ls fs → es ≡ fs
same_events [] [] [] h g = refl
same_events [] [] (f ∷ fs) h g = absurd g
same_events [] (e ∷ es) fs h g = absurd h
same_events (l ∷ ls) [] fs h g = absurd h
same_events (l ∷ ls) (e ∷ es) [] h g = absurd g
same_events (l ∷ ls) (e ∷ es) (f ∷ fs) h g =
    let heads = same_event l e f h.0 g.0 in
    let tails = same_events ls es fs h.1 g.1 in
    cc

rest_of : (b : Bool) (l : List ℕ) (ls : List (List ℕ)) (es : List Event) → SayEach (if b then l ∷ ls else ls) es → (fs : List Event) × SayEach ls fs
rest_of false l ls es h = (es, h)
rest_of true l ls [] h = absurd h
rest_of true l ls (e ∷ es) h = (es, h.1)

said_first : (b : Bool) (l : List ℕ) (ls : List (List ℕ)) (es : List Event) → b ≡ true → SayEach (if b then l ∷ ls else ls) es → (e : Event) × SaysEvent l e
said_first false l ls es s h = absurd cc
said_first true l ls [] s h = absurd h
said_first true l ls (e ∷ es) s h = (e, h.0)

-- a line that is told says one of the events
said_at : (ls : List (List ℕ)) (n : ℕ) (x : List ℕ) (es : List Event) → slice_get ls n ≡ Some x → is_skipped x ≡ false → SayEach (told_lines ls) es → (e : Event) × SaysEvent x e
said_at [] zero x es g s h = absurd cc
said_at [] (suc n) x es g s h = absurd cc
said_at (l ∷ ls) zero x es g s h =
    let same : l ≡ x = cc in
    let told : not (is_skipped l) ≡ true = ap (λ (w : List ℕ). not (is_skipped w)) same ∙ ap not s in
    let first = said_first (not (is_skipped l)) l (told_lines ls) es told h in
    (first.0, subst (λ (w : List ℕ). SaysEvent w first.0) same first.1)
said_at (l ∷ ls) (suc n) x es g s h =
    let others = rest_of (not (is_skipped l)) l (told_lines ls) es h in
    said_at ls n x others.0 g s others.1

-- ---- texts

pub not_refused : (text : List ℕ) (es : List Event) (n : ℕ) (k : LineKind) → SayEach (told_lines (lines text)) es → IsFirstRefused text n k → ⊥
not_refused text es n k h r =
    let said = said_at (lines text) r.place r.line es r.there r.told h in
    not_both r.line said.0 k said.1 r.refused

taken_at : (ls : List (List ℕ)) (n m : ℕ) (x : List ℕ) → n < m → slice_get ls n ≡ Some x → slice_get (take m ls) n ≡ Some x
taken_at [] zero m x l g = absurd cc
taken_at [] (suc n) m x l g = absurd cc
taken_at (y ∷ ys) n zero x l g = absurd (omega arith)
taken_at (y ∷ ys) zero (suc m) x l g = g
taken_at (y ∷ ys) (suc n) (suc m) x l g = taken_at ys n m x (omega arith) g

-- no line before the first that is refused is refused
none_before : (text : List ℕ) (n m : ℕ) (j k : LineKind) (h : IsFirstRefused text n j) (g : IsFirstRefused text m k) → h.place < g.place → ⊥
none_before text n m j k h g l =
    let said = said_at (take g.place (lines text)) h.place h.line g.before (taken_at (lines text) h.place g.place h.line l h.there) h.told g.said in
    not_both h.line said.0 j said.1 h.refused

pub same_refusal : (text : List ℕ) (n m : ℕ) (j k : LineKind) → IsFirstRefused text n j → IsFirstRefused text m k → (n ≡ m) × (j ≡ k)
same_refusal text n m j k h g = elim (cases_order h.place g.place) [
  | inl e ↦
      let there : slice_get (lines text) h.place ≡ Some g.line = ap (slice_get (lines text)) e ∙ g.there in
      let both : Some h.line ≡ Some g.line = sym h.there ∙ there in
      let line : h.line ≡ g.line = cc both in
      (h.number_is ∙ ap suc e ∙ sym g.number_is, same_fault g.line j k (subst (λ (w : List ℕ). IsRefused w j) line h.refused) g.refused)
  | inr l ↦ elim l [
    | inl before ↦ absurd (none_before text n m j k h g before)
    | inr behind ↦ absurd (none_before text m n k j g h behind)
  ]
]
