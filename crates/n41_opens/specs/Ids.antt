-- The order of open records by what names them, with its laws.
use Rattle.std.specs.Prelude.{Bool}
use Rattle.std.specs.declared.cmp.Ordering.{Ordering}
use Rattle.std.specs.Ordering.{nat_cmp, ordering_then, is_eq}
use Rattle.std.specs.Cmp.{IsTotalOrder, on_total, then_total}
use Rattle.std.specs.Cmp.Lexicographic.{slice_cmp, nat_list_cmp_total}
use Rattle.n41_opens.specs.declared.ids.RecordKey.{RecordKey}
use Rattle.n41_opens.specs.declared.ids.RecordId.{RecordId}

-- by owner, then by filehandle
abbrev pub key_cmp : RecordKey → RecordKey → Ordering
key_cmp j k = ordering_then (slice_cmp nat_cmp j.owner k.owner) (slice_cmp nat_cmp j.fh k.fh)

-- by key, then by "other"
abbrev pub id_cmp : RecordId → RecordId → Ordering
id_cmp q r = ordering_then (key_cmp q.key r.key) (slice_cmp nat_cmp q.other r.other)

-- two keys, and two names of records, are the same
abbrev pub is_key : RecordKey → RecordKey → Bool
is_key j k = is_eq (key_cmp j k)

abbrev pub is_id : RecordId → RecordId → Bool
is_id q r = is_eq (id_cmp q r)

pub key_total : IsTotalOrder key_cmp
key_total = then_total (on_total (λ (k : RecordKey). k.owner) nat_list_cmp_total) (on_total (λ (k : RecordKey). k.fh) nat_list_cmp_total)

pub id_total : IsTotalOrder id_cmp
id_total = then_total (on_total (λ (r : RecordId). r.key) key_total) (on_total (λ (r : RecordId). r.other) nat_list_cmp_total)
