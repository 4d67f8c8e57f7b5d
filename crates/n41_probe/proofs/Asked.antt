-- What was written of the request, and when the wait for a record is over.
use Rattle.std.proofs.Common.{◌≡◌, ◌≤◌, ◌<◌, ◌+◌, ◌-◌, ◌*◌, ◌^◌, inl, inr, eq-or-lt_of_le, ◌∙◌, ap, sym, refl, arith, ℕ, List, [], ◌++◌, take, drop, length, true}
use Rattle.std.proofs.lemmas.List.{take-append-drop, length-append}
use Rattle.n41_record.specs.Fragments.{fragment}
use Rattle.n41_record.specs.Gathered.{Gathered}
use Rattle.n41_link.specs.Heard.{Stills, GaveAll}
use Rattle.n41_link.proofs.Records.{read_size}
use Rattle.n41_probe.specs.Probes.{request, BeginsToAsk}

pub nothing_asked : (moment : ℕ) (old new : List ℕ) → old ≡ [] → new ≡ old → BeginsToAsk moment new
nothing_asked moment old new e same = record {
  rest = fragment true (request moment);
  begins = ap (λ (log : List ℕ). log ++ fragment true (request moment)) (sym (same ∙ e));
}

pub partly_asked : (moment n : ℕ) (old new call : List ℕ) → old ≡ [] → call ≡ request moment → new ≡ old ++ take n (fragment true call) → BeginsToAsk moment new
partly_asked moment n old new call e spelled part = record {
  rest = drop n (fragment true (request moment));
  begins =
      sym (take-append-drop n (fragment true (request moment)))
      ∙ ap (λ (log : List ℕ). log ++ drop n (fragment true (request moment))) (sym (part ∙ rw (e, spelled) refl));
}

-- bytes of which no record was given, though all were, are few
few_read : (g : Gathered) (before : List (List ℕ)) → before ≡ [] → g.given ≡ before → GaveAll g → length g.fed < 2 ^ 22
few_read g before none given all = omega (arith, read_size g.fed g.given all.1.0 all.1.1, ap length (given ∙ none))

pub wait_shrinks : (g : Gathered) (given : List (List ℕ)) (old more : List ℕ) (before now : ℕ) → g.fed ≡ old ++ more → given ≡ [] → g.given ≡ given → GaveAll g → Stills old g.fed before now true → before < 60
    → (2 ^ 22 - length g.fed) * 60 + (60 - now) < (2 ^ 22 - length old) * 60 + (60 - before)
wait_shrinks g given old more before now grows none same all stills patient =
    let few : length g.fed < 2 ^ 22 = few_read g given none same all in
    let longer_or_same : length old ≤ length g.fed = omega (arith, ap length grows, length-append old more) in
    elim (eq-or-lt_of_le longer_or_same) [
      | inl equal ↦ let still = stills.silent (sym equal) in omega arith
      | inr longer ↦ let still = stills.heard longer in omega arith
    ]
