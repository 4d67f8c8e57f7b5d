-- What records a stream of bytes holds (RFC 5531, section 11; the limits are our own).
use Rattle.std.specs.Prelude.{◌≡◌, ℕ, List, [], ◌∷◌, ◌++◌}
use Rattle.n41_record.specs.declared.fault.GatherFault.{GatherFault}
use Rattle.n41_record.specs.Fragments.{IsFragments, IsRest, IsRefused}

-- the text is these records, each in some cutting, and no more
abbrev pub AreRecords : List ℕ → List (List ℕ) → Type 0
AreRecords text [] = text ≡ []
AreRecords text (bytes ∷ list) = (front : List ℕ) × (after : List ℕ) × (text ≡ front ++ after) × IsFragments bytes front × AreRecords after list

-- the stream is these records, then a rest that holds no whole record
pub record Records (stream : List ℕ) (list : List (List ℕ)) (rest : List ℕ) : Type 0 where
  pub front : List ℕ
  pub whole : stream ≡ front ++ rest
  pub records : AreRecords front list
  pub ending : IsRest rest

-- the stream is these records, then a record that passes a limit
pub record Refused (stream : List ℕ) (list : List (List ℕ)) (rest : List ℕ) (fault : GatherFault) : Type 0 where
  pub front : List ℕ
  pub whole : stream ≡ front ++ rest
  pub records : AreRecords front list
  pub ending : IsRefused rest fault

-- the stream begins with these records
pub record BeginsWith (stream : List ℕ) (list : List (List ℕ)) (rest : List ℕ) : Type 0 where
  pub front : List ℕ
  pub whole : stream ≡ front ++ rest
  pub records : AreRecords front list
