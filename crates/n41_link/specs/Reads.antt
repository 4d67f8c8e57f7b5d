-- What reading adds to the bytes that an ear has read. (own)
use Rattle.std.specs.Prelude.{◌≡◌, ◌<◌, ℕ, Bool, true, false}
use Rattle.n41_link.specs.declared.ear.Reading.{Reading}
use Rattle.n41_link.specs.declared.ear.Reading.TheVariants.{Enough, Quiet, End, Failed, NoMemory}

-- how many bytes were read before and after a read
abbrev pub GrowsAt : Reading → ℕ → ℕ → Type 0
GrowsAt Enough before now = before < now
GrowsAt Quiet before now = now ≡ before
GrowsAt End before now = now ≡ before
GrowsAt Failed before now = now ≡ before
GrowsAt NoMemory before now = now ≡ before

abbrev pub was_quiet : Reading → Bool
was_quiet Enough = false
was_quiet Quiet = true
was_quiet End = false
was_quiet Failed = false
was_quiet NoMemory = false

abbrev pub was_end : Reading → Bool
was_end Enough = false
was_end Quiet = false
was_end End = true
was_end Failed = false
was_end NoMemory = false

abbrev pub was_failed : Reading → Bool
was_failed Enough = false
was_failed Quiet = false
was_failed End = false
was_failed Failed = true
was_failed NoMemory = false
