-- Names that have bytes.
use Rattle.std.proofs.Common.{List, [], ◌∷◌, ℕ, All}
use Rattle.std.proofs.lemmas.List.Elements.{All-nil, All-cons, All-head, All-tail}
use Rattle.hex.specs.Hex.{IsBytes}
use Rattle.n41_journal_text.specs.Words.{IsFull, IsToldName}

pub told_names : (names : List (List ℕ)) → All IsBytes names → All IsFull names → All IsToldName names
told_names [] h k = All-nil IsToldName
told_names (n ∷ ns) h k =
    All-cons IsToldName n ns (All-head IsBytes n ns h, All-head IsFull n ns k) (told_names ns (All-tail IsBytes n ns h) (All-tail IsFull n ns k))
