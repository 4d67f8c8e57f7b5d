-- How changes lead from one seqid to another.
use Rattle.std.proofs.Common.{◌≡◌, ◌≢◌, ◌↔◌, inl, inr, ℕ, zero, suc, ◌+◌, ◌-◌, ◌<◌, ◌≤◌, nat_le, arith}
use Rattle.std.proofs.lemmas.Bool.Decides.{nat_tests}
use Rattle.std.proofs.lemmas.Bool.{cases_lt, and_parts, and_from, leb-true, le-leb}
use Rattle.std.specs.Bool.{Decides}
use Rattle.n41_seqid.specs.Seqids.{next, after, IsNewer, distance, is_newer}

next_up : (a : ℕ) → a < 4294967295 → next a ≡ suc a
next_up a l = grind (arith, nat_tests)

next_around : (a : ℕ) → a ≡ 4294967295 → next a ≡ 1
next_around a e = grind (arith, nat_tests)

-- while the greatest is not passed
pub after_up : (n b : ℕ) → n + b ≤ 4294967295 → after n b ≡ n + b
after_up zero b l = omega arith
after_up (suc n) b l =
    let e : after n b ≡ n + b = after_up n b (omega arith) in
    let f : next (after n b) ≡ suc (after n b) = next_up (after n b) (omega (arith, e)) in
    omega (arith, e, f)

-- and once it is
pub after_around : (n b : ℕ) → n ≤ 2147483647 → b ≤ 4294967295 → 4294967295 < n + b → after n b + 4294967295 ≡ n + b
after_around zero b h m l = absurd (omega arith)
after_around (suc n) b h m l = elim (cases_lt 4294967295 (n + b)) [
  | inl p ↦ (let e : after n b + 4294967295 ≡ n + b = after_around n b (omega arith) m p in
      let f : next (after n b) ≡ suc (after n b) = next_up (after n b) (omega (arith, e)) in
      omega (arith, e, f))
  | inr p ↦ (let e : after n b ≡ n + b = after_up n b p in
      let f : next (after n b) ≡ 1 = next_around (after n b) (omega (arith, e)) in
      omega (arith, e, f))
]

-- c changes lead from b to a, as they are counted
pub record Counts (a b c : ℕ) : Type 0 where
  pub up : b ≤ a → c + b ≡ a
  pub around : a < b → c + b ≡ 4294967295 + a

is_other : (a b c : ℕ) → Counts a b c → 1 ≤ c → a ≢ b
is_other a b c v p = λ e. (let u = v.up (omega (arith, e)) in omega (arith, e, u))

leads : (a b c : ℕ) → 1 ≤ a → a ≤ 4294967295 → b ≤ 4294967295 → Counts a b c → c ≤ 2147483647 → after c b ≡ a
leads a b c i j k v q = elim (cases_lt a b) [
  | inl l ↦ (let u = v.around l in let e = after_around c b q k (omega (arith, u)) in omega (arith, u, e))
  | inr l ↦ (let u = v.up l in let e = after_up c b (omega (arith, u)) in omega (arith, u, e))
]

newer_from : (a b c : ℕ) → 1 ≤ a → a ≤ 4294967295 → b ≤ 4294967295 → Counts a b c → 1 ≤ c → c ≤ 2147483647 → IsNewer a b
newer_from a b c i j k v p q = (is_other a b c v p, (c, q, leads a b c i j k v q))

counted : (a b c n : ℕ) → b ≤ 4294967295 → Counts a b c → a ≢ b → n ≤ 2147483647 → after n b ≡ a → (1 ≤ c) × (c ≤ 2147483647)
counted a b c n k v o q e = elim (cases_lt 4294967295 (n + b)) [
  | inl p ↦ (let f = after_around n b q k p in
      let l : a < b = omega (arith, e, f) in
      let u = v.around l in
      (omega (arith, e, f, u), omega (arith, e, f, u)))
  | inr p ↦ (let f = after_up n b p in
      let l : b ≤ a = omega (arith, e, f) in
      let u = v.up l in
      (omega (arith, e, f, u, o), omega (arith, e, f, u)))
]

-- so a count tells what is newer
pub counts_tell : (a b c : ℕ) → 1 ≤ a → a ≤ 4294967295 → b ≤ 4294967295 → Counts a b c → ((1 ≤ c) × (c ≤ 2147483647)) ↔ IsNewer a b
counts_tell a b c i j k v = (λ p. newer_from a b c i j k v p.0 p.1, λ m. counted a b c m.1.0 k v m.0 m.1.1 m.1.2)

-- and the distance is such a count
counts_up : (a b : ℕ) → b ≤ a → distance b a ≡ a - b
counts_up a b l = grind (arith, nat_tests, l)

counts_around : (a b : ℕ) → a < b → distance b a ≡ 4294967295 + a - b
counts_around a b l = grind (arith, nat_tests, l)

counts : (a b : ℕ) → b ≤ 4294967295 → Counts a b (distance b a)
counts a b k = record {
  up = λ l. (let e = counts_up a b l in omega (arith, e));
  around = λ l. (let e = counts_around a b l in omega (arith, e));
}

-- so the test decides what is newer
pub is_newer_decides : (a b : ℕ) → 1 ≤ a → a ≤ 4294967295 → b ≤ 4294967295 → Decides (is_newer a b) (IsNewer a b)
is_newer_decides a b i j k =
    let c = distance b a in
    let t = counts_tell a b c i j k (counts a b k) in (
      λ e. (let p = and_parts (nat_le 1 c) (nat_le c 2147483647) e in t.0 (leb-true 1 c p.0, leb-true c 2147483647 p.1)),
      λ m. (let p = t.1 m in and_from (nat_le 1 c) (nat_le c 2147483647) (le-leb 1 c p.0) (le-leb c 2147483647 p.1)),
    )
