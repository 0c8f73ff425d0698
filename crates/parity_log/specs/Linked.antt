-- When the owners of a ledger say what its page table says.
use Rattle.parity_log.specs.declared.ledger.Ledger.{Ledger}
use Rattle.parity_log.specs.Owners.{Tied}

-- a ledger whose owners are tied to its tables
abbrev pub Linked : Ledger → Type 0
Linked l = Tied l.tables.pages l.owners.places
