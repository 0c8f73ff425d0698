use Rattle.std.proofs.Common.{◌≡◌, ◌*◌, ◌≤◌}
use Rattle.std.specs.List.{join_with_byte}
use Rattle.arrayvec.specs.ArrayString.{array_string_len}
use denote.Text.{Utf8}
use denote.Shadow.{shadow}
use Rattle.replay.proofs.ListingLaws.{shown, separator}
use Rattle.replay.proofs.listing.missing_text.Given as goal

abbrev pub invariant-loop-server : goal.invariant-loop-server
invariant-loop-server l = record {
  utf8 : shadow (Utf8 l.separator);
  separator : l.separator ≡ separator 43 (shown l.missing l.server);
  text : l.text.bytes ≡ join_with_byte 43 (shown l.missing l.server);
  short : array_string_len l.text ≤ 2 * l.server;
}
