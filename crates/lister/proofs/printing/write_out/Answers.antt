use Rattle.std.proofs.Common.{◌-◌, ◌≤◌, length, drop, arith, length-drop, length-take}
use Rattle.lister.proofs.KnownBytes.{kept_written, more_written}
use Rattle.lister.proofs.printing.write_out.Goals.{in-Ok, in-Err+else-ne}
use Rattle.lister.proofs.printing.write_out.Goals as goal

pub loop-preserved : goal.loop-preserved
loop-preserved g c =
    let before = c.loop.invariant in
    let bytes = c.args.bytes.now in
    let left = length bytes - c.loop.count in
    let most = length-take left (drop c.loop.count bytes) in
    elim c.match-write.branch [
      | in-Ok w ↦
          let fits : w.in-Ok.more ≤ left = omega (arith, most, length-drop c.loop.count bytes, w.in-Ok.ensures.bound) in
          rw w.count-is (record {
            within = omega (arith, fits);
            written = more_written _ _ _ c.loop.count w.in-Ok.more bytes fits before.written w.in-Ok.ensures.bytes;
          })
      | in-Err+else-ne w ↦
          rw w.count-is (record { within = before.within; written = kept_written _ _ _ _ before.written w.in-Err.ensures.bytes })
    ]
