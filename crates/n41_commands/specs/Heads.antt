-- The lines at the head of a script: who the client is (own).
use Rattle.std.specs.Prelude.{◌≡◌, ℕ, ◌^◌, Bool, List, length, if◌then◌else◌, nat_le, Result, Ok, Err}
use Rattle.n41_words.specs.Numbers.{number}
use Rattle.n41_words.specs.declared.fault.LineFault.{LineFault}
use Rattle.n41_words.specs.declared.fault.LineFault.TheVariants.{Kind, NoMemory}
use Rattle.n41_words.specs.declared.fault.LineKind.{LineKind}
use Rattle.n41_words.specs.declared.fault.LineKind.TheVariants as kind
use Rattle.n41_commands.specs.Commands.{next, ended}
use Rattle.n41_commands.specs.declared.heads.Ids.{Ids}

-- a user or a group is a number of 32 bits
abbrev pub id : List ℕ → Result ℕ LineKind
id word = number (2 ^ 32) word

-- a user and a group
abbrev pub ids : Bool → List (List ℕ) → Result Ids LineKind
ids long words =
    next long words id (λ u behind. next long behind id (λ g rest. ended long rest (record { uid = u; gid = g })))

-- an owner has at most 255 bytes
abbrev pub owner_word : List ℕ → Result (List ℕ) LineKind
owner_word word = if nat_le (length word) 255 then Ok word else Err kind.Limit

abbrev pub owner : Bool → List (List ℕ) → Result (List ℕ) LineKind
owner long words = next long words owner_word (λ o rest. ended long rest o)

-- this number stands at the front of the words, and these behind it: a head goes on with them
abbrev pub HasId : ℕ → Bool → List (List ℕ) → List (List ℕ) → Type 0
HasId n long ws rest = (go : ℕ → List (List ℕ) → Result Ids LineKind) → next long ws id go ≡ go n rest

-- this is wrong where a number is to come
abbrev pub LacksId : LineFault → Bool → List (List ℕ) → Type 0
LacksId (Kind k) long ws = (go : ℕ → List (List ℕ) → Result Ids LineKind) → next long ws id go ≡ Err k
LacksId NoMemory long ws = Unit {0}
