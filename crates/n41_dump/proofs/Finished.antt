-- From the pieces of a stream to its dump.
use Rattle.std.proofs.Common.{◌≡◌, ◌≤◌, ◌+◌, ◌∙◌, ap, sym, subst, ℕ, List, [], ◌++◌, length, take, arith, length-append, append-nil, refl, None, Some, Ok, Err, Result, false}
use Rattle.std.proofs.lemmas.List.{length-take-le}
use Rattle.std.specs.declared.option.Option.{Option}
use Rattle.n41_link.specs.Counts.{Counts}
use Rattle.n41_lines.specs.declared.side.Side.{Side}
use Rattle.n41_dump.specs.declared.fault.DumpFault.{DumpFault}
use Rattle.n41_dump.specs.declared.fault.DumpFault.TheVariants.{Limit, ReadFault, WriteFault, NoMemory}
use Rattle.n41_dump.specs.declared.printer.Printer.{Printer}
use Rattle.n41_dump.specs.Causes.{Answers, is_read_fault}
use Rattle.n41_dump.specs.Dumps.{most_bytes, BeginsDump, IsBegun}
use Rattle.n41_streams.specs.Streams.{Gave, IsRead}
use Rattle.n41_dump.specs.Steps.{Reads, PrintsAll, Finishes}
use Rattle.std.specs.Io.KnownBytes.{append_known}
use Rattle.n41_dump.proofs.Printing.{gave_none, gave_more, gave_same, begun_more}

-- a read that ended the dump
pub stopped : (T : Type 0) (e : DumpFault) (side : Side) (p : Printer) (stream : List ℕ) (start taken left left_mid left_new : Option (List ℕ)) (room : List ℕ) (came came_new : ℕ)
    → Gave left left_mid stream → came ≡ length stream → BeginsDump side stream start taken → Reads (Err e) left_mid left_new room came came_new → PrintsAll {T = T} (Err e) side p left left_new start taken
stopped T Limit side p stream start taken left left_mid left_new room came came_new gave count begun r = record {
  stream = stream ++ r.0;
  gave = gave_more left left_mid left_new stream r.0 gave r.1;
  long = omega (arith, r.2, count, length-append stream r.0);
  begun = begun_more side stream r.0 start taken begun;
}
stopped T ReadFault side p stream start taken left left_mid left_new room came came_new gave count begun r = record { stream = stream; gave = gave_same left left_mid left_new stream gave r; begun = begun }
stopped T WriteFault side p stream start taken left left_mid left_new room came came_new gave count begun r = absurd r
stopped T NoMemory side p stream start taken left left_mid left_new room came came_new gave count begun r = absurd r

-- nothing came of the last read
pub gave_at_end : (a b c : Option (List ℕ)) (stream room : List ℕ) (n : ℕ) → n ≡ 0 → Gave a b stream → Gave b c (take n room) → Gave a c stream
gave_at_end a b c stream room n e g h = subst (λ (t : List ℕ). Gave a c t) (ap (λ (k : ℕ). stream ++ take k room) e ∙ append-nil stream) (gave_more a b c stream (take n room) g h)

pub answers : {T : Type 0} (r : Result T DumpFault) (side : Side) (stream : List ℕ) (left left_new taken taken_new : Option (List ℕ)) → IsRead most_bytes left left_new stream
    → Finishes r side stream taken taken_new → Answers r side left left_new taken taken_new
answers (Ok x) side stream left left_new taken taken_new read h = record { stream = stream; text = h.0; read = read; dumps = h.1; took = h.2 }
answers (Err Limit) side stream left left_new taken taken_new read h = absurd h
answers (Err ReadFault) side stream left left_new taken taken_new read h = absurd h
answers (Err WriteFault) side stream left left_new taken taken_new read h = record { stream = stream; text = h.0; read = read; dumps = h.1; took = h.2 }
answers (Err NoMemory) side stream left left_new taken taken_new read h = record { stream = stream; gave = read.gave; begun = h }

pub read_finished : {T : Type 0} (r : Result T DumpFault) (side : Side) (stream : List ℕ) (taken taken_new : Option (List ℕ)) (f g : ℕ) → Finishes r side stream taken taken_new
    → Counts f g false → Counts f g (is_read_fault r)
read_finished (Ok x) side stream taken taken_new f g h c = c
read_finished (Err Limit) side stream taken taken_new f g h c = absurd h
read_finished (Err ReadFault) side stream taken taken_new f g h c = absurd h
read_finished (Err WriteFault) side stream taken taken_new f g h c = c
read_finished (Err NoMemory) side stream taken taken_new f g h c = c

-- the pieces of a stream stay within it
pub piece_fits : (stream room piece : List ℕ) (n came came_new : ℕ) → came ≡ length stream → n ≤ length room → piece ≡ take n room → came_new ≡ came + n → (length (stream ++ piece) ≡ came_new)
piece_fits stream room piece n came came_new count within e more =
    let size : length piece ≡ n = ap length e ∙ length-take-le n room within in
    omega (arith, length-append stream piece, size, count, more)

nothing_more : (known : Option (List ℕ)) → known ≡ append_known known []
nothing_more None = refl
nothing_more (Some xs) = ap Some (sym (append-nil xs))

-- nothing was read or printed
pub not_begun : (side : Side) (left taken : Option (List ℕ)) → IsBegun side left left taken taken
not_begun side left taken = record {
  stream = [];
  gave = gave_none left;
  begun = record {
    list = [];
    rest = [];
    begins = record { front = []; whole = refl; records = refl };
    took = record { part = []; more = []; cut = refl; took = nothing_more taken };
  };
}

pub begun_at : (a b : Side) (stream : List ℕ) (start taken : Option (List ℕ)) → a ≡ b → BeginsDump a stream start taken → BeginsDump b stream start taken
begun_at a b stream start taken e h = subst (λ (z : Side). BeginsDump z stream start taken) e h

pub finishes_at : {T : Type 0} (r : Result T DumpFault) (a b : Side) (stream : List ℕ) (start taken : Option (List ℕ)) → a ≡ b → Finishes r a stream start taken → Finishes r b stream start taken
finishes_at r a b stream start taken e h = subst (λ (z : Side). Finishes r z stream start taken) e h
