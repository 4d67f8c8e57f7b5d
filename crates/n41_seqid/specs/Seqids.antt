-- The order of seqids, the numbers of a state's changes (RFC 8881, section 8.2.2).
use Rattle.std.specs.Prelude.{◌≡◌, ◌≢◌, ℕ, zero, suc, ◌+◌, ◌-◌, ◌≤◌, ◌==◌, nat_le, Bool, ◌&&◌, if◌then◌else◌}

-- the seqid that follows: after the greatest, 2^32 - 1, comes 1, since 0 is none
abbrev pub next : ℕ → ℕ
next a = if a == 4294967295 then 1 else a + 1

-- the seqid that so many changes lead to
abbrev pub after : ℕ → ℕ → ℕ
after zero b = b
after (suc n) b = next (after n b)

-- a is newer than b: another seqid, to which at most 2^31 - 1 changes lead from b
abbrev pub IsNewer : ℕ → ℕ → Type 0
IsNewer a b = (a ≢ b) × ((n : ℕ) × (n ≤ 2147483647) × (after n b ≡ a))

-- how many changes lead from b to a, round the circle of the 2^32 - 1 seqids
abbrev pub distance : ℕ → ℕ → ℕ
distance b a = if nat_le b a then a - b else 4294967295 + a - b

-- the same as a test, by the distance
abbrev pub is_newer : ℕ → ℕ → Bool
is_newer a b = nat_le 1 (distance b a) && nat_le (distance b a) 2147483647
