-- Two scripts that were worked out by hand, over five memory servers of three slots each: the listings that they have, the members that are missing, and what servers are asked.
use Rattle.std.specs.Prelude.{◌≡◌, ◌++◌, ℕ, List, [], ◌∷◌, Result, Ok, Err, codes, length, map, negsuc, pos, replicate, take}
use Rattle.law.specs.Missing.{missing_set}
use Rattle.memory.specs.Store.{made}
use Rattle.page.specs.Pages.{page_of}
use Rattle.page.specs.Refusals.{fault_of, on_line}
use Rattle.page.specs.declared.faults.Layer.TheVariants.{Replay}
use Rattle.page.specs.declared.faults.Refusal.TheVariants.{Full}
use Rattle.parity_log.specs.Paging.{pageout}
use Rattle.parity_log.specs.Rule.{Rule, give, ask, note}
use Rattle.parity_log.specs.LogState.{unmade_log}
use Rattle.server.specs.Calls.{Call as ServerCall, to_put, to_get, to_free}
use Rattle.replay.specs.Listing.{answer_of, halt_at}
use Rattle.replay.specs.Replaying.{replayed}
use Rattle.replay.specs.declared.listing.Halt.{Halt}
use Rattle.session.specs.Calls.{Model, model, run_model}
use Rattle.session.specs.Memories.{Listed, replay_over}
use Rattle.session.specs.Model.{Row, asked, meanings}

abbrev pub memories : List (List ℕ)
memories = replicate 5 (replicate 1536 0)

-- a replay into a listing of so many zeros
abbrev pub worked : List ℕ → ℕ → Listed (Result ℕ Halt) (List ℕ)
worked script room = replay_over script memories (replicate room 0)

-- falls, a page that is restored, a lost one, and a rebuild that fails
abbrev pub losing_script : List ℕ
losing_script =
    codes "call,number,value\nmake,3,-\nout,0,10\nout,1,20\nfall,0,-\nin,0,-\nfall,1,-\nin,1,-\nback,0,-\nrebuild,0,-\n"

abbrev pub losing_listing : List ℕ
losing_listing =
    codes "line,call,number,answer,detail\n2,make,3,done,4\n3,out,0,done,-\n4,out,1,done,-\n5,fall,0,done,-\n6,in,0,done,10\n7,fall,1,done,-\n8,in,1,lost,0+1\n9,back,0,done,-\n10,rebuild,0,done,0/1\n"

-- Two groups fill, and line 12 opens the last free one: group 0 is cleaned into it while server 2 is down. Then server 2 is rebuilt.
abbrev pub filling_script : List ℕ
filling_script =
    codes "call,number,value\nmake,3,2\nout,0,1\nout,1,2\nout,2,3\nout,3,4\nout,0,5\nout,1,6\nout,0,7\nout,1,8\nfall,2,-"

abbrev pub cleaning_script : List ℕ
cleaning_script =
    filling_script ++ codes "\nout,0,9\nin,2,-\nback,2,-\nrebuild,2,-\nfall,3,-\nin,0,-\nin,1,-\nfree,2,-\nin,2,-"

abbrev pub cleaning_listing : List ℕ
cleaning_listing =
    codes "line,call,number,answer,detail\n2,make,3,done,4\n3,out,0,done,-\n4,out,1,done,-\n5,out,2,done,-\n6,out,3,done,-\n7,out,0,done,-\n8,out,1,done,-\n9,out,0,done,-\n10,out,1,done,-\n11,fall,2,done,-\n12,out,0,done,-\n13,in,2,done,3\n14,back,2,done,-\n15,rebuild,2,done,2/0\n16,fall,3,done,-\n17,in,0,done,9\n18,in,1,done,8\n19,free,2,done,-\n20,in,2,none,-\n"

-- line 3 can't be read, and line 4 is not looked at
abbrev pub unread_script : List ℕ
unread_script = codes "call,number,value\nmake,3,-\nin,01,-\nout,0,10\n"

abbrev pub unread_listing : List ℕ
unread_listing = codes "line,call,number,answer,detail\n2,make,3,done,4\n3,-,-,unread,-\n"

-- a replay that halts behind so many bytes, since the listing is full on a line of the script
abbrev pub full_at : ℕ → ℕ → Result ℕ Halt
full_at count line = Err (halt_at count (on_line line (fault_of Replay Full)))

-- In no bytes nothing runs. In 61 there is room for two lines, which have 47; the third, of the script's line 3, would have 15.
pub record WorkedReplays : Type 0 where
  pub losing : (worked losing_script (length losing_listing)).outcome ≡ Ok (length losing_listing)
  pub losing_listed : (worked losing_script (length losing_listing)).listing ≡ losing_listing
  pub none_run : map (take 2) (worked losing_script 0).memories ≡ replicate 5 (0 ∷ 0 ∷ [])
  pub losing_left : map (take 2) (worked losing_script (length losing_listing)).memories ≡ (10 ∷ 11 ∷ []) ∷ (20 ∷ 21 ∷ []) ∷ (0 ∷ 0 ∷ []) ∷ (0 ∷ 0 ∷ []) ∷ (0 ∷ 0 ∷ []) ∷ []
  pub cleaning : (worked cleaning_script (length cleaning_listing)).outcome ≡ Ok (length cleaning_listing)
  pub cleaning_listed : (worked cleaning_script (length cleaning_listing)).listing ≡ cleaning_listing
  pub cut : (worked losing_script 61).outcome ≡ full_at 47 3
  pub cut_listed : (worked losing_script 61).listing ≡ take 47 losing_listing ++ replicate 14 0
  -- the first line of a listing is the script's line 1, whether or not that can be read
  pub headless : (worked losing_script 30).outcome ≡ full_at 0 1
  pub unnamed : (worked [] 46).outcome ≡ Ok 46
  pub unnamed_cut : (worked [] 45).outcome ≡ full_at 31 1
  -- a line that can't be read ends a replay as done, unless its own line of the listing does not fit
  pub unread : (worked unread_script 62).outcome ≡ Ok 62
  pub unread_listed : (worked unread_script 62).listing ≡ unread_listing
  pub unread_cut : (worked unread_script 61).outcome ≡ full_at 47 3
  -- the outcomes as numbers
  pub losing_answer : answer_of (worked losing_script (length losing_listing)).outcome ≡ pos (length losing_listing)
  pub cut_answer : answer_of (worked losing_script 61).outcome ≡ negsuc 47

-- the tables and servers that a script leaves
abbrev pub left : List ℕ → Model
left script = (replayed run_model script (model unmade_log (map (λ bytes. made bytes 0) memories)) (replicate 600 0)).runner

-- the sets of the members that are missing then, of each of the three groups
abbrev pub missing : List ℕ → List ℕ
missing script = let m = left script in map (missing_set m.log.tables (meanings m.row)) (0 ∷ 1 ∷ 2 ∷ [])

pub record WorkedMissing : Type 0 where
  -- none is where nothing is written yet
  pub made : missing (codes "call,number,value\nmake,3,-") ≡ 0 ∷ 0 ∷ 0 ∷ []
  -- server 0, then 0 and 1; a rebuild that fails mends none
  pub one : missing (codes "call,number,value\nmake,3,-\nout,0,10\nout,1,20\nfall,0,-") ≡ 1 ∷ 0 ∷ 0 ∷ []
  pub two : missing losing_script ≡ 3 ∷ 0 ∷ 0 ∷ []
  -- server 2 in both full groups
  pub full : missing filling_script ≡ 4 ∷ 4 ∷ 0 ∷ []
  -- group 0 was cleaned and has no members; server 3 has none in the open group
  pub cleaned : missing cleaning_script ≡ 0 ∷ 8 ∷ 0 ∷ []
  -- a parity slot counts only where the group is closed
  pub parity : missing (cleaning_script ++ codes "\nback,3,-\nrebuild,3,-\nfall,4,-") ≡ 0 ∷ 256 ∷ 0 ∷ []

-- a call on a server: which, what, and at which slot
abbrev pub Asked : Type 0
Asked = ℕ × List ℕ × ℕ

abbrev pub asked_of : ℕ → ServerCall → Asked
asked_of s (to_put g page) = (s, codes "put", g)
asked_of s (to_get g length) = (s, codes "get", g)
asked_of s (to_free g) = (s, codes "free", g)

-- what a rule asks of memory servers, in order
abbrev pub asks_of : {N A : Type 0} → Rule N A → Row → List Asked
asks_of (give a) row = []
asks_of (ask s c k) row = let r = asked row s c in asked_of s c ∷ asks_of (k r.0) r.1
asks_of (note n rule) row = asks_of rule row

-- what a pageout asks after a script
abbrev pub pageout_asks : List ℕ → ℕ → ℕ → List Asked
pageout_asks script page value = let m = left script in asks_of (pageout m.log page (page_of value)) m.row

abbrev pub freed : ℕ → List Asked
freed g = (0, codes "free", g) ∷ (1, codes "free", g) ∷ (2, codes "free", g) ∷ (3, codes "free", g) ∷ (4, codes "free", g) ∷ []

pub record WorkedOrder : Type 0 where
  -- the last of four pages is put, and leaves none in the group that they were in, which is freed; then the parity is put
  pub closing : pageout_asks (codes "call,number,value\nmake,3,2\nout,0,1\nout,1,2\nout,2,3\nout,3,4\nout,0,5\nout,1,6\nout,2,7") 3 8 ≡ (3, codes "put", 1) ∷ freed 0 ++ ((4, codes "put", 1) ∷ [])
  -- line 12 of the cleaning script: pages 2 and 3 are read in group 0 and put in group 2, page 2 from the other members since server 2 is
  -- down; group 0 is freed; page 0 is put at server 2, which refuses, so the other members of group 2 are asked
  pub cleaning : pageout_asks filling_script 0 9 ≡
      (2, codes "get", 0) ∷ (0, codes "get", 0) ∷ (1, codes "get", 0) ∷ (3, codes "get", 0) ∷ (4, codes "get", 0) ∷ (0, codes "put", 2)
      ∷ (3, codes "get", 0) ∷ (1, codes "put", 2)
      ∷ freed 0 ++ ((2, codes "put", 2) ∷ (0, codes "get", 2) ∷ (1, codes "get", 2) ∷ [])
