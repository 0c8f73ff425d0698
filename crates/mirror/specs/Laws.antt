-- A mirror's rule is one of a page server, whatever its halves are.
use Rattle.std.specs.Prelude.{◌≡◌, ℕ, ◌≤◌, List, Ok, Err, Result, ◌≢◌, refl}
use Rattle.std.proofs.Common.{ap, ap₂, ⊎_elim, arith}
use Rattle.std.proofs.lemmas.Bool.{cases_eq, cases_lt}
use Rattle.page.specs.declared.faults.Fault.{Fault}
use Rattle.page.specs.declared.faults.Layer.TheVariants.{Mirror as InMirror}
use Rattle.page.specs.declared.faults.Refusal.TheVariants.{Range, Length, Gone}
use Rattle.server.specs.Meaning.{Meaning}
use Rattle.server.specs.Calls.{Call, to_put, to_get, to_free, slot_of, length_of, Answer}
use Rattle.server.specs.Steps.{Fine, Raised, Step, Lawful}
use Rattle.server.specs.Ways.{named_raised}
use Rattle.mirror.specs.Joined.{first_of, joined, Paired}
use Rattle.mirror.specs.Stands.{means, Stepped}
use Rattle.server.specs.declared.PageServer.{Ghosts}
use Rattle.mirror.specs.Rule.{Rule, refusal, either_done_of, second_says, AskSecond, Asked, Steps}
use Rattle.mirror.specs.Leaving.{Leaves, unasked, asked}
use Rattle.mirror.specs.Joining.{paired_sound, joined_agree, joined_past, joined_step, put_raised, get_raised_first, get_raised_second}

-- a call that is refused for its length or its slot
long_step : (m : Meaning) (c : Call) (a : Answer c) → (length_of c ≢ 512) → a ≡ Err (refusal Length (slot_of c)) → Step m c a m
long_step m c a bad e = record {
  long = λ _. ((InMirror, tt, e), refl);
  past = λ l _. absurd (bad l);
  down = λ f _. absurd (bad f.0);
  kept = λ f _ _. absurd (bad f.0);
  raised = λ f _ _. absurd (bad f.0);
  size = refl;
  era = omega arith;
}

past_step : (m : Meaning) (c : Call) (a : Answer c) → length_of c ≡ 512 → m.size ≤ slot_of c → a ≡ Err (refusal Range (slot_of c)) → Step m c a m
past_step m c a l p e = record {
  long = λ bad. absurd (bad l);
  past = λ _ _. ((InMirror, tt, e), refl);
  down = λ f _. let z : ⊥ = omega (arith, f.1) in absurd z;
  kept = λ f _ _. let z : ⊥ = omega (arith, f.1) in absurd z;
  raised = λ f _ _. let z : ⊥ = omega (arith, f.1) in absurd z;
  size = refl;
  era = omega arith;
}

module _ {X Y : Type 0} {mx : X → Meaning} {rx : Rule X} {my : Y → Meaning} {ry : Rule Y} (lx : Lawful mx rx) (ly : Lawful my ry) where
  abbrev Order : X → Y → Type 0
  Order x y = Paired (mx x) (my y)

  abbrev Meets : X → Y → (c : Call) → Answer c → X → Y → Type 0
  Meets x y c a x' y' = Order x' y' × Step (joined (mx x) (my y)) c a (joined (mx x') (my y'))

  unasked_meets : (x x' : X) (y y' : Y) (c : Call) (a : Answer c) → Order x y → x' ≡ x → y' ≡ y → Step (joined (mx x) (my y)) c a (joined (mx x) (my y)) → Meets x y c a x' y'
  unasked_meets x x' y y' c a o e f st = rw (e, f) (o, st)

  module _ (x x' : X) (y y' : Y) (o : Order x y) where
    leaves_meets : (c : Call) (a : Answer c) → Fine (joined (mx x) (my y)) c → Leaves (mx x) (mx x') c → Leaves (my y) (my y') c → Raised c ((joined (mx x) (my y)).held (slot_of c)) a ((joined (mx x') (my y')).held (slot_of c)) → Meets x y c a x' y'
    leaves_meets c a fine h i r =
        let om = lx.sound x in
        let on = ly.sound y in
        (record { agree = joined_agree h i om on o.agree fine; past = joined_past h i om on o.agree fine o.past }, joined_step h i om on o.agree fine a r)

    both_meets : (c : Call) (a b d : Answer c) → Fine (joined (mx x) (my y)) c → rx x c b x' → ry y c d y' → (Raised c ((mx x).held (slot_of c)) b ((mx x').held (slot_of c)) → Raised c ((my y).held (slot_of c)) d ((my y').held (slot_of c)) → Raised c ((joined (mx x) (my y)).held (slot_of c)) a ((joined (mx x') (my y')).held (slot_of c))) → Meets x y c a x' y'
    both_meets c a b d fine p q r =
        let fx : Fine (mx x) c = (fine.0, omega (arith, fine.1)) in
        let fy : Fine (my y) c = (fine.0, omega (arith, fine.1)) in
        let om = lx.sound x in
        let on = ly.sound y in
        let sx = lx.meets x c b x' p in
        let sy = ly.meets y c d y' q in
        leaves_meets c a fine (asked (mx x) (mx x') c b om fx sx) (asked (my y) (my y') c d on fy sy)
        (r (named_raised c om fx sx) (named_raised c on fy sy))

    get_meets : (s n : ℕ) (a b : Result (List ℕ) Fault) → Fine (joined (mx x) (my y)) (to_get s n) → rx x (to_get s n) b x' → AskSecond ry y s n b a y' → Meets x y (to_get s n) a x' y'
    get_meets s n a (Ok p) fine q t =
        let c = to_get s n in
        let fx : Fine (mx x) c = (fine.0, omega (arith, fine.1)) in
        let om = lx.sound x in
        let sx = lx.meets x c (Ok p) x' q in
        rw t.0 (leaves_meets c (Ok p) fine (asked (mx x) (mx x') c (Ok p) om fx sx) (unasked (my y) (my y') s n (ap my t.1))
        (get_raised_first s n p ((mx x).held s) ((my y).held s) ((mx x').held s) ((my y').held s) (named_raised c om fx sx)))
    get_meets s n a (Err f) fine q t =
        rw t.2 (both_meets (to_get s n) (second_says s f t.0) (Err f) t.0 fine q t.1 (get_raised_second s n f ((mx x).held s) ((my y).held s) ((mx x').held s) ((my y').held s) t.0 (o.agree s)))

    pub asked_meets : (c : Call) (a : Answer c) → Fine (joined (mx x) (my y)) c → Asked rx ry x y c a x' y' → Meets x y c a x' y'
    asked_meets (to_put s p) a fine t = rw t.4 (both_meets (to_put s p) (either_done_of (refusal Gone s) t.0 t.1) t.0 t.1 fine t.2 t.3 (put_raised s p ((mx x).held s) ((my y).held s) ((mx x').held s) ((my y').held s) t.0 t.1))
    asked_meets (to_get s n) a fine t = get_meets s n a t.0 fine t.1 t.2
    asked_meets (to_free s) a fine t = both_meets (to_free s) a t.0 t.1 fine t.2 t.3 (λ h k. (t.4, ap₂ first_of h.1 k.1))

    steps_meet : (c : Call) (a : Answer c) → Steps rx ry (joined (mx x) (my y)).size x y c a x' y' → Meets x y c a x' y'
    steps_meet c a st = ⊎_elim whole (λ bad. let t = st.long bad in unasked_meets x x' y y' c a o t.1 t.2 (long_step _ c a bad t.0)) (cases_eq (length_of c) 512)
      where
        whole : length_of c ≡ 512 → Meets x y c a x' y'
        whole l =
            ⊎_elim
            (λ i. asked_meets c a (l, i) (st.fine l i))
            (λ i. let t = st.past l i in unasked_meets x x' y y' c a o t.1 t.2 (past_step _ c a l i t.0))
            (cases_lt (slot_of c) (joined (mx x) (my y)).size)

-- g and h are what the halves' kinds mean and do
pub mirror_laws : {X Y : Type 0} {g : Ghosts X} {h : Ghosts Y} → Lawful g.meaning g.steps → Lawful h.meaning h.steps → Lawful (means {g = g} {h = h} g.meaning h.meaning) (Stepped g.meaning h.meaning g.steps h.steps)
mirror_laws {g} {h} lx ly = record {
  sound = λ s. paired_sound (g.meaning s.first) (h.meaning s.second) (lx.sound s.first) (ly.sound s.second) s.paired;
  meets = λ s c a t r. (steps_meet lx ly s.first t.first s.second t.second s.paired c a r).1;
}
