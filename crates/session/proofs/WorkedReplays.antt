-- The replays that were worked out by hand, by computing them.
use Rattle.std.proofs.Common.{refl}
use Rattle.std.specs.Fmt.{digits}
use Rattle.parity_log.specs.Choices.{next_free, free_count, fewest_live}
use Rattle.parity_log.specs.Paging.{place, free_on, release, release_old, close_full, move, move_all, clean, open_next_rule, with_open, judged, ending, steps, pageout, free}
use Rattle.parity_log.specs.Reading.{asking, gather, read, pagein_from, pagein}
use Rattle.parity_log.specs.Rebuilding.{put_back, mend, visit, step}
use Rattle.parity_log.specs.Tables.{page_at, live_count}
use Rattle.session.specs.Worked.{WorkedMissing, WorkedOrder, WorkedReplays}

pub worked_replays : WorkedReplays
unfolding digits put_back mend visit step asking gather read pagein_from pagein page_at live_count next_free free_count fewest_live place free_on release release_old close_full move move_all clean open_next_rule with_open judged ending steps pageout free
worked_replays = record { losing = refl; losing_listed = refl; none_run = refl; losing_left = refl; cleaning = refl; cleaning_listed = refl; cut = refl; cut_listed = refl; headless = refl; unnamed = refl; unnamed_cut = refl; unread = refl; unread_listed = refl; unread_cut = refl; losing_answer = refl; cut_answer = refl }

pub worked_missing : WorkedMissing
unfolding digits put_back mend visit step asking gather read pagein_from pagein page_at live_count next_free free_count fewest_live place free_on release release_old close_full move move_all clean open_next_rule with_open judged ending steps pageout free
worked_missing = record { made = refl; one = refl; two = refl; full = refl; cleaned = refl; parity = refl }

pub worked_order : WorkedOrder
unfolding digits put_back mend visit step asking gather read pagein_from pagein page_at live_count next_free free_count fewest_live place free_on release release_old close_full move move_all clean open_next_rule with_open judged ending steps pageout free
worked_order = record { closing = refl; cleaning = refl }
