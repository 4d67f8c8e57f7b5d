-- A front that nothing follows stays where it is, however often it is to move.
use Rattle.std.proofs.Common.{◌≡◌, ◌+◌, ◌-◌, ◌<◌, ℕ, zero, suc, Bool, true, not, length, Option, None, Some, is_some, refl, sym, ◌∙◌, ap, arith}
use Rattle.n41_seqid.specs.Seqids.{next}
use Rattle.n41_seqid.specs.Fronts.{Window, waits, popped, popped_by, popped_times, drained}

not_some : {A : Type 0} (o : Option A) (b : Bool) → is_some o ≡ not b → b ≡ true → o ≡ None
not_some None b e f = refl
not_some (Some x) b e f = absurd (let g : true ≡ not true = e ∙ ap (λ z. not z) f in cc)

stays : {T : Type 0} (q w : Window T) (n d : ℕ) → w ≡ popped_times n q → popped w ≡ w → popped_times (d + n) q ≡ w
stays q w n zero e f =
    let s : zero + n ≡ n = omega arith in
    rw s (sym e)
stays q w n (suc d) e f =
    let s : suc d + n ≡ suc (d + n) = omega arith in
    rw s (ap (λ v. popped v) (stays q w n d e f) ∙ f)

pub stopped : {T : Type 0} (q w v : Window T) (n m : ℕ) (o : Option T) (b : Bool) → w ≡ popped_times n q → v ≡ popped w → o ≡ waits w (next w.at) → is_some o ≡ not b → b ≡ true → n < m → m ≡ length q.waiting → v ≡ drained q
stopped q w v n m o b e p a i t l z =
    let f : popped w ≡ w = ap (λ x. popped_by w x) (sym a ∙ not_some o b i t) in
    let s : (length q.waiting - n) + n ≡ length q.waiting = omega (arith, l, z) in
    p ∙ (f ∙ (sym (stays q w n (length q.waiting - n) e f) ∙ ap (λ k. popped_times k q) s))
