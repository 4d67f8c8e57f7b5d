-- The record under way, before and after some bytes.
use Rattle.std.proofs.Common.{◌≡◌, ℕ, ◌+◌, ◌<◌, ◌≤◌, Bool, false, List, [], ◌∷◌, ◌++◌, length, sym, ap, subst, ◌∙◌, append_assoc, length-append, arith, Option, None, Some, take, drop, take-append-drop}
use Rattle.n41_record.specs.declared.fault.GatherFault.{GatherFault}
use Rattle.std.specs.List.{concat}
use Rattle.std.proofs.lemmas.List.{append-nil}
use Rattle.n41_record.specs.declared.partial.Partial.{Partial}
use Rattle.n41_record.specs.declared.partial.Open.{Open}
use Rattle.n41_record.specs.Fragments.{header, earlier}
use Rattle.n41_record.specs.Partials.{IsBetween, IsInside, IsPlaced, Holds, Stops}
use Rattle.n41_record.proofs.Spelled.{length-header, length-earlier, earlier_more, concat_more}

pub grown_inside : (p q : Partial) (last : Bool) (left more : ℕ) (rest front : List ℕ) → IsInside p last left rest
    → q.bytes.items ≡ p.bytes.items ++ front → q.fragments ≡ p.fragments → q.head.items ≡ p.head.items → left ≡ length front + more
    → IsInside q last more (rest ++ front)
grown_inside p q last left more rest front i bytes count head fits =
    let size : length i.came + left ≡ length (i.came ++ front) + more = omega (arith, length-append i.came front) in
    record {
      before = i.before;
      came = i.came ++ front;
      count = count ∙ i.count;
      many = i.many;
      spelled = ap (λ (x : List ℕ). x ++ front) i.spelled ∙ append_assoc (earlier i.before) (header last (length i.came + left) ++ i.came) front ∙ ap (λ (x : List ℕ). earlier i.before ++ x) (append_assoc (header last (length i.came + left)) i.came front ∙ ap (λ (n : ℕ). header last n ++ (i.came ++ front)) size);
      bytes = bytes ∙ ap (λ (x : List ℕ). x ++ front) i.bytes ∙ append_assoc (concat i.before) i.came front;
      long = omega (arith, ap length bytes, length-append p.bytes.items front, i.long, fits);
      head = head ∙ i.head;
    }

pub grown_between : (p q : Partial) (rest front : List ℕ) → IsBetween p rest
    → q.head.items ≡ p.head.items ++ front → q.bytes.items ≡ p.bytes.items → q.fragments ≡ p.fragments → length (p.head.items ++ front) ≤ 4
    → IsBetween q (rest ++ front)
grown_between p q rest front b head bytes count fits = record {
  before = b.before;
  count = count ∙ b.count;
  many = b.many;
  spelled = ap (λ (x : List ℕ). x ++ front) b.spelled ∙ append_assoc (earlier b.before) p.head.items front ∙ ap (λ (x : List ℕ). earlier b.before ++ x) (sym head);
  bytes = bytes ∙ b.bytes;
  long = omega (arith, ap length bytes, b.long);
  below = omega (arith, ap length head, fits);
}

-- a fragment that is not the last has come whole
pub closed : (p q : Partial) (rest : List ℕ) → IsInside p false 0 rest → q.bytes.items ≡ p.bytes.items → q.fragments ≡ p.fragments + 1 → q.head.items ≡ p.head.items
    → IsBetween q rest
closed p q rest i bytes count head =
    let size : length i.came + 0 ≡ length i.came = omega arith in
    record {
      before = i.before ++ i.came ∷ [];
      count = omega (arith, count, i.count, length-append i.before (i.came ∷ []));
      many = omega (arith, i.many, length-append i.before (i.came ∷ []));
      spelled = i.spelled ∙ ap (λ (n : ℕ). earlier i.before ++ (header false n ++ i.came)) size ∙ sym (earlier_more i.before i.came) ∙ sym (append-nil _) ∙ ap (λ (x : List ℕ). earlier (i.before ++ i.came ∷ []) ++ x) (sym (head ∙ i.head));
      bytes = bytes ∙ i.bytes ∙ sym (concat_more i.before i.came);
      long = omega (arith, ap length bytes, i.long);
      below = omega (arith, ap length (head ∙ i.head));
    }

pub hold_between : (p : Partial) (rest : List ℕ) → p.part ≡ None → p.came ≡ length rest → IsBetween p rest → length p.head.items < 4 → Holds p rest
hold_between p rest is size b below = record { size = size; placed = subst (IsPlaced p rest) (sym is) (b, below) }

pub held_between : (p : Partial) (rest : List ℕ) → p.part ≡ None → Holds p rest → IsBetween p rest × (length p.head.items < 4)
held_between p rest is h = subst (IsPlaced p rest) is h.placed

pub held_inside : (p : Partial) (o : Open) (rest : List ℕ) → p.part ≡ Some o → Holds p rest → IsInside p o.last o.left rest × (0 < o.left)
held_inside p o rest is h = subst (IsPlaced p rest) is h.placed

-- how long a rest can be
pub between_size : (p : Partial) (rest : List ℕ) → IsBetween p rest → length rest ≤ 1130500
between_size p rest b = omega (arith, ap length b.spelled, length-append (earlier b.before) p.head.items, length-earlier b.before, b.many, b.below, b.long, ap length b.bytes)

pub inside_size : (p : Partial) (last : Bool) (left : ℕ) (rest : List ℕ) → IsInside p last left rest → length rest ≤ 1130500
inside_size p last left rest i = omega (arith, ap length i.spelled, length-append (earlier i.before) (header last (length i.came + left) ++ i.came), length-append (header last (length i.came + left)) i.came, length-header last (length i.came + left), length-earlier i.before, i.many, i.long, ap length i.bytes, length-append (concat i.before) i.came)

placed_size : (p : Partial) (rest : List ℕ) (o : Option Open) → IsPlaced p rest o → length rest ≤ 1130500
placed_size p rest None h = between_size p rest h.0
placed_size p rest (Some o) h = inside_size p o.last o.left rest h.0

pub held_size : (p : Partial) (rest : List ℕ) → Holds p rest → length rest ≤ 1130500
held_size p rest h = placed_size p rest p.part h.placed

pub cut_at : (mid : ℕ) (piece front after : List ℕ) → front ≡ take mid piece → after ≡ drop mid piece → piece ≡ front ++ after
cut_at mid piece front after f a = sym (ap (λ (x : List ℕ). x ++ after) f ∙ ap (λ (x : List ℕ). take mid piece ++ x) a ∙ take-append-drop mid piece)

pub size_more : (n : ℕ) (rest front : List ℕ) → n ≡ length rest → n + length front ≡ length (rest ++ front)
size_more n rest front e = omega (arith, length-append rest front)

pub stops_along : (rest front after piece : List ℕ) (f : GatherFault) → piece ≡ front ++ after → Stops ((rest ++ front) ++ after) f → Stops (rest ++ piece) f
stops_along rest front after piece f cut s = subst (λ (x : List ℕ). Stops x f) (append_assoc rest front after ∙ ap (λ (x : List ℕ). rest ++ x) (sym cut)) s
