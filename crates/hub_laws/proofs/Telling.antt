-- Nodes are told of flags that steps raised.
use Rattle.std.proofs.Common.{◌≡◌, ⊎_elim, inl, inr, ℕ, zero, suc, Bool, true, false, cond, List, [], ◌∷◌, map}
use Rattle.std.proofs.Common.{Option, None, Some, refl, sym, ap, ◌∙◌, subst}
use Rattle.std.specs.Prelude.{slice_get}
use Rattle.std.specs.Option.{option_and_then, option_map}
use Rattle.base_types.specs.Lists.{changed_at}
use Rattle.base_types.specs.Name.{same_name}
use Rattle.base_types.specs.declared.ids.Node.{Node}
use Rattle.message_types.specs.declared.message.Message.{Message as MessageOf}
use Rattle.script_lines.specs.Sound.{same_node}
use Rattle.script_lines.specs.declared.script.Script.{Script}
use Rattle.run_rules.specs.Past.{EachInTurn, In, appended}
use Rattle.run_rules.specs.Runs.{IsLine, IsRaised}
use Rattle.run_rules.specs.declared.step.Step.{Step}
use Rattle.hub_wire.specs.Networks.{next_copy}
use Rattle.hub_board.specs.Follows.{flag_for, flag_in, gone_in, mark_raised, place_of, told, with_begun, with_gone}
use Rattle.hub_board.specs.Follows.{with_raised, with_told}
use Rattle.hub_board.specs.Hubs.{Hubbed, all_raised, flag_of, flags_of, follow_at, given_of, with_steps, with_turn}
use Rattle.hub_board.specs.Hubs.{without}
use Rattle.hub_board.specs.Turning.{steps_of}
use Rattle.hub_board.specs.declared.follow.Follow.{Follow}
use Rattle.hub_board.specs.declared.follow.Mark.{Mark}
use Rattle.hub_board.specs.declared.follow.Mark.TheVariants.{Plain, Raise, Await, Raised, Told}
use Rattle.hub_board.specs.declared.given.Gift.{Gift}
use Rattle.hub_board.specs.declared.given.Gift.TheVariants.{Message, Begun as BegunGift, Raised as RaisedGift, Lapse}
use Rattle.hub_board.specs.declared.given.Given.TheVariants.{Message as Came, Raised as WasRaised}
use Rattle.hub_board.specs.declared.given.Turn.{Turn}
use Rattle.hub_laws.proofs.Boards.{BoardRaises}
use Rattle.hub_laws.specs.Keeping.{Keeps, Round, gave, round_of, rounds_of}
use Rattle.hub_laws.specs.Laws.{AwaitIsMet}
use Rattle.hub_laws.proofs.Followed.{at_all, at_changed}
use Rattle.hub_laws.proofs.Names.{name_same}
use Rattle.hub_laws.proofs.Planned.{each_append, each_now, each_on, known, once_after}

module _ (P : List ℕ → Type 0) where
  -- the flag of a line that is known as raised is so
  abbrev pub MarkIs : Mark → Type 0
  MarkIs (Raised flag) = P flag
  MarkIs _ = Unit {0}

  abbrev pub MarksAre : List Mark → Type 0
  MarksAre [] = Unit {0}
  MarksAre (mark ∷ marks) = MarkIs mark × MarksAre marks

  abbrev pub FollowIs : Option Follow → Type 0
  FollowIs None = Unit {0}
  FollowIs (Some f) = MarksAre f.marks

  raised_is : (flag : List ℕ) → P flag → (mark : Mark) → MarkIs mark → MarkIs (mark_raised flag mark)
  raised_is flag p Plain h = h
  raised_is flag p (Raise name) h = h
  raised_is flag p (Await name) h = by_test (same_name name flag) refl
    where
      by_test : (b : Bool) → same_name name flag ≡ b → MarkIs (cond b (Raised name) (Await name))
      by_test true e = subst P (sym (name_same name flag e)) p
      by_test false e = tt
  raised_is flag p (Raised name) h = h
  raised_is flag p Told h = h

  raised_are : (flag : List ℕ) → P flag → (marks : List Mark) → MarksAre marks → MarksAre (map (mark_raised flag) marks)
  raised_are flag p [] h = tt
  raised_are flag p (mark ∷ marks) h = (raised_is flag p mark h.0, raised_are flag p marks h.1)

  told_are : (marks : List Mark) (i : ℕ) → MarksAre marks → MarksAre (changed_at marks i told)
  told_are [] i h = tt
  told_are (mark ∷ marks) zero h = (tt, h.1)
  told_are (mark ∷ marks) (suc i) h = (h.0, told_are marks i h.1)

  kept_is : (change : Follow → Follow) → ((f : Follow) → MarksAre f.marks → MarksAre (change f).marks)
      → (o : Option Follow) → FollowIs o → FollowIs (option_map change o)
  kept_is change keeps None h = tt
  kept_is change keeps (Some f) h = keeps f h

  either_is : (change : Follow → Follow) → ((f : Follow) → MarksAre f.marks → MarksAre (change f).marks)
      → (b : Bool) (o : Option Follow) → FollowIs o → FollowIs (cond b (option_map change o) o)
  either_is change keeps true o h = kept_is change keeps o h
  either_is change keeps false o h = h

  all_raised_is : (n : Node) (flags : List (List ℕ)) → ((flag : List ℕ) → In flag flags → P flag)
      → (follows : List Follow)
      → FollowIs (slice_get follows (place_of follows n))
      → FollowIs (slice_get (all_raised flags follows) (place_of (all_raised flags follows) n))
  all_raised_is n [] p follows h = h
  all_raised_is n (flag ∷ flags) p follows h =
      all_raised_is n flags (λ x i. p x (inr i)) (map (with_raised flag) follows)
      (subst FollowIs (sym (at_all (with_raised flag) (λ f. refl) follows n))
      (kept_is (with_raised flag) (λ f k. raised_are flag (p flag (inl refl)) f.marks k)
      (slice_get follows (place_of follows n)) h))

  handed_is : (hub : Hubbed) (r n : Node) (steps : List Step)
      → ((flag : List ℕ) → In flag (flags_of hub r steps) → P flag)
      → FollowIs (follow_at hub n) → FollowIs (follow_at (with_steps hub r steps) n)
  handed_is hub r n steps p h =
      let fs = changed_at hub.follows (place_of hub.follows r) (with_gone (gone_in steps)) in
      all_raised_is n (flags_of hub r steps) p fs
      (subst FollowIs (sym (at_changed (with_gone (gone_in steps)) (λ f. refl) r hub.follows n))
      (either_is (with_gone (gone_in steps)) (λ f k. k) (same_node r n) (follow_at hub n) h))

  given_is : (hub : Hubbed) (r n : Node) (gift : Option Gift) → FollowIs (follow_at hub n)
      → FollowIs (follow_at (without gift r hub) n)
  given_is hub r n None h = h
  given_is hub r n (Some Message) h = h
  given_is hub r n (Some Lapse) h = h
  given_is hub r n (Some BegunGift) h =
      subst FollowIs (sym (at_changed with_begun (λ f. refl) r hub.follows n))
      (either_is with_begun (λ f k. k) (same_node r n) (follow_at hub n) h)
  given_is hub r n (Some RaisedGift) h =
      subst FollowIs (sym (at_changed with_told (λ f. refl) r hub.follows n))
      (either_is with_told (λ f k. told_are f.marks f.gone k) (same_node r n) (follow_at hub n) h)

  mark_is : (mark : Mark) (flag : List ℕ) → flag_in mark ≡ Some flag → MarkIs mark → P flag
  mark_is (Raised name) flag e h = subst P (let same : name ≡ flag = cc in same) h
  mark_is Plain flag e h = absurd (cc)
  mark_is (Raise name) flag e h = absurd (cc)
  mark_is (Await name) flag e h = absurd (cc)
  mark_is Told flag e h = absurd (cc)

  marks_is : (marks : List Mark) (i : ℕ) (flag : List ℕ) → option_and_then flag_in (slice_get marks i) ≡ Some flag
      → MarksAre marks → P flag
  marks_is [] i flag e h = absurd (cc)
  marks_is (mark ∷ marks) zero flag e h = mark_is mark flag e h.0
  marks_is (mark ∷ marks) (suc i) flag e h = marks_is marks i flag e h.1

  follow_is : (o : Option Follow) (flag : List ℕ) → option_and_then flag_for o ≡ Some flag → FollowIs o → P flag
  follow_is None flag e h = absurd (cc)
  follow_is (Some f) flag e h = marks_is f.marks f.gone flag e h

  raised_back : (o : Option (List ℕ)) (flag : List ℕ) → option_map (λ x. WasRaised x) o ≡ Some (WasRaised flag) → o
      ≡ Some flag
  raised_back None flag e = absurd (cc)
  raised_back (Some name) flag e = let same : name ≡ flag = cc in ap Some same

  came_not : (o : Option MessageOf) (flag : List ℕ) → option_map (λ x. Came x) o ≡ Some (WasRaised flag) → ⊥
  came_not None flag e = absurd (cc)
  came_not (Some m) flag e = absurd (cc)

  -- the flag that a node is told of
  gave_is : (hub : Hubbed) (r : Node) (gift : Option Gift) (flag : List ℕ) → given_of hub r gift ≡ Some (WasRaised flag)
      → FollowIs (follow_at hub r) → P flag
  gave_is hub r None flag e h = absurd (cc)
  gave_is hub r (Some Message) flag e h = absurd (came_not (next_copy hub.net r) flag e)
  gave_is hub r (Some BegunGift) flag e h = absurd (cc)
  gave_is hub r (Some RaisedGift) flag e h = follow_is (follow_at hub r) flag (raised_back (flag_of hub r) flag e) h
  gave_is hub r (Some Lapse) flag e h = absurd (cc)

module _ (P Q : List ℕ → Type 0) (f : (flag : List ℕ) → P flag → Q flag) where
  mark_later : (mark : Mark) → MarkIs P mark → MarkIs Q mark
  mark_later (Raised flag) h = f flag h
  mark_later Plain h = tt
  mark_later (Raise name) h = tt
  mark_later (Await name) h = tt
  mark_later Told h = tt

  marks_later : (marks : List Mark) → MarksAre P marks → MarksAre Q marks
  marks_later [] h = tt
  marks_later (mark ∷ marks) h = (mark_later mark h.0, marks_later marks h.1)

  follow_later : (o : Option Follow) → FollowIs P o → FollowIs Q o
  follow_later None h = tt
  follow_later (Some x) h = marks_later x.marks h

module _ (script : Script) where
  -- what nodes were told was raised
  pub record Tells (hub : Hubbed) (past : List Step) (own : Node → List Round) : Type 0 where
    pub marks : (n : Node) → FollowIs (IsRaised script past) (follow_at hub n)
    pub rounds : (n : Node) (r : Round) → In r (own n) → (flag : List ℕ) → r.given ≡ Some (WasRaised flag)
        → IsRaised script past flag

  met_each : (xs past : List Step) → ((s : Step) → In s xs → AwaitIsMet script past s)
      → EachInTurn (AwaitIsMet script) xs past
  met_each [] past h = tt
  met_each (s ∷ xs) past h =
      (h s (inl refl), met_each xs (s ∷ past) (λ x i n line flag c l d. inr (h x (inr i) n line flag c l d)))

  known_by : (hub : Hubbed) (past later : List Step) (own : Node → List Round) (t : Turn) (n : Node) (b : Bool)
      → ((flag : List ℕ) → IsRaised script past flag → IsRaised script later flag)
      → ((flag : List ℕ) → gave hub t ≡ Some (WasRaised flag) → IsRaised script later flag)
      → ((r : Round) → In r (own n) → (flag : List ℕ) → r.given ≡ Some (WasRaised flag) → IsRaised script past flag)
      → (r : Round) → In r (cond b (round_of hub t ∷ own n) (own n)) → (flag : List ℕ) → r.given ≡ Some (WasRaised flag)
      → IsRaised script later flag
  known_by hub past later own t n false up now old r i flag e = up flag (old r i flag e)
  known_by hub past later own t n true up now old r i flag e = ⊎_elim
      (λ (same : r ≡ round_of hub t). now flag (sym (ap (λ (x : Round). x.given) same) ∙ e))
      (λ (k : In r (own n)). up flag (old r k flag e))
      i

  pub met_from : (turns : List Turn) (hub : Hubbed) (past : List Step) (own : Node → List Round) → Tells hub past own
      → ((n : Node) → EachInTurn (Keeps script n) (rounds_of hub n turns) (own n)) → BoardRaises script hub turns past
      → EachInTurn (AwaitIsMet script) (steps_of turns) past
  met_from [] hub past own h keeps raises = tt
  met_from (t ∷ turns) hub past own h keeps raises =
      let r = t.node in
      let round = round_of hub t in
      let later = appended t.steps past in
      let rest = rounds_of (with_turn hub t) r turns in
      let k = each_now (Keeps script r) r round rest (own r) (keeps r) in
      let up = λ (flag : List ℕ) (x : IsRaised script past flag). once_after _ t.steps past x in
      let marks = λ (n : Node). handed_is (IsRaised script later) hub r n t.steps raises.0
      (follow_later (IsRaised script past) (IsRaised script later) up (follow_at hub n) (h.marks n)) in
      each_append (AwaitIsMet script) t.steps (steps_of turns) past
      (met_each t.steps past (λ s i n line flag c l d.
      let line_is = subst (λ x. IsLine script x n line) (k.own s i) l in
      let told = k.awaits s i n line flag c line_is d in
      h.rounds r told.0 told.1 flag told.2))
      (met_from turns (with_turn hub t) later (known r round own)
      (record {
        marks = (λ n. given_is (IsRaised script later) (with_steps hub r t.steps) r n t.gift (marks n));
        rounds = (λ n. known_by hub past later own t n (same_node r n) up
            (λ flag e. gave_is (IsRaised script later) (with_steps hub r t.steps) r t.gift flag e (marks r))
            (h.rounds n));
      })
      (λ n. each_on (Keeps script n) (same_node r n) round (rounds_of (with_turn hub t) n turns) (own n) (keeps n))
      raises.1)
