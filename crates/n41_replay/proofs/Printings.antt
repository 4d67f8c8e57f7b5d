-- What the sink took, where it failed.
use Rattle.std.proofs.Common.{◌≡◌, ℕ, List, Option, sym, take, drop, take-append-drop}
use Rattle.std.specs.Io.KnownBytes.{append_known}
use Rattle.n41_streams.specs.Streams.{TookPart}

pub took_part : (old new : Option (List ℕ)) (bytes : List ℕ) → ((n : ℕ) × (new ≡ append_known old (take n bytes))) → TookPart old new bytes
took_part old new bytes h = record { part = take h.0 bytes; more = drop h.0 bytes; cut = sym (take-append-drop h.0 bytes); took = h.1 }
