-- A source that gave bytes twice.
use Rattle.std.proofs.Common.{◌≡◌, ◌∙◌, ◌⊎◌, ◌<◌, inl, inr, ap, sym, subst, ℕ, List, ◌++◌, length, append_assoc, Some, None, refl}
use Rattle.std.specs.declared.option.Option.{Option}
use Rattle.std.specs.Io.KnownBytes.{prepend_known}
use Rattle.n41_streams.specs.declared.reading.ReadFault.{ReadFault}
use Rattle.n41_streams.specs.declared.reading.ReadFault.TheVariants.{TooLong, NoMemory}
use Rattle.n41_streams.specs.Streams.{Gave, IsTooLong, ReadCause}

prepend_known-append : (known : Option (List ℕ)) (xs ys : List ℕ) → prepend_known (xs ++ ys) known ≡ prepend_known xs (prepend_known ys known)
prepend_known-append None xs ys = refl
prepend_known-append (Some bytes) xs ys = ap Some (append_assoc xs ys bytes)

pub gave_more : (old between new : Option (List ℕ)) (xs ys : List ℕ) → Gave old between xs → Gave between new ys → Gave old new (xs ++ ys)
gave_more old between new xs ys e1 e2 = e1 ∙ ap (prepend_known xs) e2 ∙ sym (prepend_known-append new xs ys)

-- why a piece was not put behind the bytes that came before it
pub refused : (fault : ReadFault) (most : ℕ) (old between new : Option (List ℕ)) (xs ys : List ℕ) → Gave old between xs → Gave between new ys
    → (fault ≡ NoMemory) ⊎ ((fault ≡ TooLong) × (most < length (xs ++ ys))) → ReadCause fault most old new
refused fault most old between new xs ys e1 e2 (inl is) = subst (λ (f : ReadFault). ReadCause f most old new) (sym is) tt
refused fault most old between new xs ys e1 e2 (inr is) =
    subst (λ (f : ReadFault). ReadCause f most old new) (sym is.0) (record { bytes = xs ++ ys; gave = gave_more old between new xs ys e1 e2; beyond = is.1 })
