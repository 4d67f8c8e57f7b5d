-- What the forms in memory hold.
use Rattle.std.specs.Prelude.{ℕ, List}
use Rattle.n41_link.specs.declared.connection.Inflow.{Ghosts as InGhosts}
use Rattle.n41_link.specs.declared.connection.Outflow.{Ghosts as OutGhosts}
use Rattle.n41_mem.specs.declared.prepared.Prepared.{Prepared}

-- the connections that are left
abbrev pub prepared_links : {I O : Type 0} {g : InGhosts I} {h : OutGhosts O} → Prepared I O g h → List (I × O)
prepared_links p = p.links.items

-- how often it has failed
abbrev pub prepared_faults : {I O : Type 0} {g : InGhosts I} {h : OutGhosts O} → Prepared I O g h → ℕ
prepared_faults p = p.faults
