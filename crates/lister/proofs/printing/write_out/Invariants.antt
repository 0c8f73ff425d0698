use Rattle.std.proofs.Common.{◌≤◌, length, take}
use Rattle.std.specs.Io.KnownBytes.{Appends}
use Rattle.lister.proofs.printing.write_out.Given as goal

abbrev pub invariant-loop : goal.invariant-loop
invariant-loop g l = record {
  within : l.count ≤ length l.bytes;
  written : Appends (g.W.Write.contents l.initial.output) (g.W.Write.contents l.output) (take l.count l.bytes);
}
