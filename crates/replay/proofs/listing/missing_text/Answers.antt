use Rattle.std.proofs.Common.{◌≡◌, ◌++◌, true, false, not, length, decimal, sym, ap, ◌∙◌, length-append, rules, arith}
use Rattle.std.specs.List.{join_with_byte}
use Rattle.std.proofs.lemmas.Bool.{eq-eqb, ne_eqb}
use Rattle.std.proofs.lemmas.Fmt.{length-decimal-le}
use Rattle.replay.specs.Listing.{is_missing}
use Rattle.replay.proofs.ListingLaws.{one_more, separator_after, separator_short, shown, shown_same, separator}
use Rattle.replay.proofs.listing.missing_text.Goals.{then-missing-weight-ne0, else-missing-weight-ne0}
use Rattle.replay.proofs.listing.missing_text.Goals as goal

pub loop-server-preserved : goal.loop-server-preserved
loop-server-preserved c =
    let set = c.args.missing in
    let n = c.loop-server.server in
    let before = c.loop-server.invariant in
    elim c.if-missing-weight-ne0.branch [
      | then-missing-weight-ne0 w ↦
          let e : is_missing set n ≡ true = ap not (ne_eqb _ 0 w.if-missing-weight-ne0.true) in
          let separated = w.push_str.ensures.bytes ∙ ap (λ t. c.loop-server.text.bytes ++ t) before.separator in
          let numbered = w.push_str-then-missing-weight-ne0.ensures.bytes ∙ ap (λ t. w.push_str.new.self.bytes ++ t) w.format.ensures.text in
          record {
            utf8 = search rules;
            separator = ap (λ x. x.now) w.separator-is ∙ separator_after set n e;
            text = ap (λ t. t.bytes) w.text-is ∙ one_more set n c.loop-server.text.bytes _ _ e before.text separated numbered;
            short = omega (arith, length-decimal-le 1 n (omega arith) (omega arith) (omega arith), separator_short 43 (shown set n), ap length before.separator, ap length numbered, length-append w.push_str.new.self.bytes (decimal n), ap (λ t. length t.bytes) w.text-is);
          }
      | else-missing-weight-ne0 w ↦
          let e : is_missing set n ≡ false = ap not (eq-eqb _ 0 w.if-missing-weight-ne0.false) in
          let same = sym (shown_same set n e) in
          record {
            utf8 = search rules;
            separator = ap (λ x. x.now) w.separator-is ∙ before.separator ∙ ap (separator 43) same;
            text = ap (λ t. t.bytes) w.text-is ∙ before.text ∙ ap (join_with_byte 43) same;
            short = omega (arith, ap (λ t. length t.bytes) w.text-is);
          }
    ]
