-- Connections as they were made. (own)
use Rattle.std.specs.Prelude.{◌≡◌, ℕ, List, []}
use Rattle.std.specs.declared.option.Option.{Option}
use Rattle.n41_link.specs.Flow.{KnownAs}

-- nothing was read from it, and its counts are 0
pub record IsUnread (got : Option (List ℕ)) (faults quiets ends : ℕ) : Type 0 where
  pub nothing : KnownAs got []
  pub no_fault : faults ≡ 0
  pub no_quiet : quiets ≡ 0
  pub no_end : ends ≡ 0

-- nothing was written to it, and its count is 0
pub record IsUnwritten (put : Option (List ℕ)) (faults : ℕ) : Type 0 where
  pub nothing : KnownAs put []
  pub no_fault : faults ≡ 0
