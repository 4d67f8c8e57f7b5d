use Rattle.std.proofs.Common.{◌≡◌, ◌++◌, length, take}
use Rattle.std.specs.List.{flat_map}
use Rattle.n41_xdr.specs.Spelling as spelling
use Rattle.n41_attr.proofs.bitmaps.write_bitmap.Given as goal

abbrev pub invariant-loop-word : goal.invariant-loop-word
invariant-loop-word l = l.w ≡ l.fn.w ++ spelling.word (length l.words) ++ flat_map spelling.word (take l.word-index l.words)
