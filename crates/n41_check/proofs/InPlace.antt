-- Rows that are changed in place, one after the other.
use Rattle.std.proofs.Common.{◌≡◌, ℕ, ◌+◌, ◌<◌, List, map, set, get_or, length, refl, sym, ◌∙◌, ap, arith}
use Rattle.std.proofs.lemmas.List.{map-set, get_or-map, length-map}
use Rattle.n41_view.proofs.InPlace.{stepped, stepped_next, stepped_whole}
use Rattle.n41_check.specs.declared.slots.Slot.{Slot}
use Rattle.n41_check.specs.Rows.{Row, rows, row_in}

-- one row more: ys are the slots so far, of which y is the new one at i
pub rows_next : (f : Row → Row) (xs ys : List Slot) (i : ℕ) (d y : Slot) → rows ys ≡ stepped f i (rows xs) → row_in y ≡ f (row_in (get_or ys i d)) → i < length ys → rows (set ys i y) ≡ stepped f (i + 1) (rows xs)
rows_next f xs ys i d y e g l =
    let m : i < length (rows ys) = omega (arith, length-map ys row_in) in
    map-set row_in ys i y ∙ stepped_next f (rows xs) (rows ys) i (i + 1) (row_in d) (row_in y) e (g ∙ ap f (sym (get_or-map row_in ys i d (row_in d) l))) m refl

pub rows_whole : (f : Row → Row) (xs ys : List Slot) (n : ℕ) → rows ys ≡ stepped f n (rows xs) → n ≡ length xs → rows ys ≡ map f (rows xs)
rows_whole f xs ys n e l = e ∙ stepped_whole f (rows xs) n (omega (arith, length-map xs row_in))
