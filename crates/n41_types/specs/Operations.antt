-- The operations of a compound.
use Rattle.std.specs.Prelude.{ℕ}
use Rattle.n41_types.specs.declared.operations.Operation.{Operation}
use Rattle.n41_types.specs.declared.operations.Operation.TheVariants as op

-- the number of an operation (RFC 8881, nfs_opnum4)
abbrev pub number : Operation → ℕ
number op.Close = 4
number op.Commit = 5
number op.Create = 6
number op.DelegReturn = 8
number op.GetAttr = 9
number op.GetFh = 10
number op.Lock = 12
number op.LockTest = 13
number op.Unlock = 14
number op.Lookup = 15
number op.Open = 18
number op.OpenDowngrade = 21
number op.PutFh = 22
number op.PutRootFh = 24
number op.Read = 25
number op.ReadDir = 26
number op.Remove = 28
number op.Rename = 29
number op.SaveFh = 32
number op.SetAttr = 34
number op.Write = 38
number op.Bind = 41
number op.ExchangeId = 42
number op.CreateSession = 43
number op.DestroySession = 44
number op.FreeStateid = 45
number op.Sequence = 53
number op.TestStateid = 55
number op.DestroyClient = 57
number op.ReclaimComplete = 58
number op.Illegal = 10044
