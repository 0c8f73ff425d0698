use Rattle.std.proofs.Common.{◌≡◌, IfSome, List, ℕ, [], ◌++◌, rules}
use Rattle.std.specs.Io.Take.{take_remaining}
use Rattle.lister.proofs.KnownBytes.{script_read}
use Rattle.lister.proofs.printing.read_script.Goals as goal

pub returns : goal.returns
returns g c =
    let read : IfSome (take_remaining g.R.Read.remaining c.take.result) (λ (xs : List ℕ). c.read_to_end.new.buf.items ≡ [] ++ xs) = search rules in
    script_read (g.R.Read.remaining c.args.input) c.read_to_end.new.buf.items (rw (c.take.ensures.limit, c.take.ensures.inner) at read)
