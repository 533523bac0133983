-- The run keeps to the plan of its script: what comes was sent, once, and there is no lapse.
use Rattle.base_types.specs.Name.{same_name}
use Rattle.message_types.specs.declared.message.Body.{Body}
use Rattle.message_types.specs.declared.message.Body.TheVariants.{Bye, Change, Done, Fetch, GiveBack, Gone, Grant, Hello}
use Rattle.message_types.specs.declared.message.Body.TheVariants.{Kept, Reclaim, Reclaimed, Restarted, Returned, Revoke}
use Rattle.message_types.specs.declared.message.Direction.{Direction}
use Rattle.message_types.specs.declared.message.Direction.TheVariants.{ToHost, ToServer}
use Rattle.message_types.specs.declared.message.Message.{Message}
use Rattle.run_examples.proofs.LapseChecks.{is_lapse}
use Rattle.run_examples.proofs.Tests.{at_all, in_back, in_front, is_not, names}
use Rattle.run_examples.proofs.Prefixes.{until_0, until_1, until_10, until_11, until_12, until_13, until_14, until_15}
use Rattle.run_examples.proofs.Prefixes.{until_16, until_17, until_18, until_19, until_2, until_20, until_21, until_22}
use Rattle.run_examples.proofs.Prefixes.{until_23, until_24, until_25, until_26, until_27, until_28, until_29, until_3}
use Rattle.run_examples.proofs.Prefixes.{until_30, until_31, until_32, until_33, until_34, until_35, until_36, until_37}
use Rattle.run_examples.proofs.Prefixes.{until_38, until_39, until_4, until_40, until_41, until_42, until_43, until_44}
use Rattle.run_examples.proofs.Prefixes.{until_45, until_46, until_47, until_48, until_49, until_5, until_50, until_51}
use Rattle.run_examples.proofs.Prefixes.{until_52, until_6, until_7, until_8, until_9}
use Rattle.run_examples.proofs.Run.{message}
use Rattle.run_examples.proofs.RunWords.{at_place, cause_of, no_message}
use Rattle.run_examples.specs.Journal.{journal, script, start, step_1, step_10, step_11, step_12, step_13, step_14}
use Rattle.run_examples.specs.Journal.{step_15, step_16, step_17, step_18, step_19, step_2, step_20, step_21, step_22}
use Rattle.run_examples.specs.Journal.{step_23, step_24, step_25, step_26, step_27, step_28, step_29, step_3, step_30}
use Rattle.run_examples.specs.Journal.{step_31, step_32, step_33, step_34, step_35, step_36, step_37, step_38, step_39}
use Rattle.run_examples.specs.Journal.{step_4, step_40, step_41, step_42, step_43, step_44, step_45, step_46, step_47}
use Rattle.run_examples.specs.Journal.{step_48, step_49, step_5, step_50, step_51, step_52, step_6, step_7, step_8}
use Rattle.run_examples.specs.Journal.{step_9}
use Rattle.std.proofs.Common.{Bool, List, None, false, [], ap, arith, inl, inr, refl, subst, sym, true, ℕ, ◌++◌, ◌∙◌, ◌∷◌}
use Rattle.std.proofs.Common.{◌≡◌, ◌≤◌}
use Rattle.std.specs.List.{list_all}
use Rattle.std.specs.Prelude.{flat_map, if◌then◌else◌, map, not}
use Rattle.run_rules.specs.Past.{Always, In}
use Rattle.run_rules.specs.Plans.{Copy, CountIs, IsPlanned, KeepsPlan, MayCome, Posting, all_left, copies_of, fate_of}
use Rattle.run_rules.specs.Plans.{left_after, post, posted, says_down, sent_in, ways_in}
use Rattle.run_rules.specs.declared.step.Cause.{Cause}
use Rattle.run_rules.specs.declared.step.Cause.TheVariants.{Message as Came, Lapse}
use Rattle.run_rules.specs.declared.step.Step.{Step}
use Rattle.run_rules.specs.declared.fate.Fate.TheVariants.{Once}
use Rattle.run_rules.specs.declared.fate.Left.{Left}
use Rattle.run_rules.specs.declared.fate.Way.{Way}
use Rattle.run_rules.specs.declared.fate.Way.TheVariants.{Free}

-- so many of a list are so: none, or at least one
none_counted : {A : Type 0} (P : A → Type 0) (xs : List A) (n : ℕ) → ((x : A) → In x xs → P x → ⊥) → CountIs P xs n → n ≡ 0
none_counted P [] n none c = c
none_counted P (x ∷ xs) n none (inl (p, _)) = absurd (none x (inl refl) p)
none_counted P (x ∷ xs) n none (inr (_, c)) = none_counted P xs n (λ y i. none y (inr i)) c

at_most_one : {A : Type 0} (P : A → Type 0) (x : A) (xs : List A) (n : ℕ) → ((y : A) → In y xs → P y → ⊥)
    → CountIs P (x ∷ xs) n → n ≤ 1
at_most_one P x xs n none (inl (_, (m, e, c))) = let z = none_counted P xs m none c in omega (arith, e, z)
at_most_one P x xs n none (inr (_, c)) = let z = none_counted P xs n none c in omega (arith, z)

some_counted : {A : Type 0} (P : A → Type 0) (xs : List A) (k : ℕ) (x : A) → In x xs → P x → CountIs P xs k → 1 ≤ k
some_counted P [] k x i p c = elim i [ ]
some_counted P (y ∷ ys) k x i p (inl (_, (m, e, c))) = omega (arith, e)
some_counted P (y ∷ ys) k x (inl e) p (inr (no_one, c)) = absurd (no_one (subst P e p))
some_counted P (y ∷ ys) k x (inr i) p (inr (_, c)) = some_counted P ys k x i p c

-- each message that was sent has one copy, which may come at any time
one_way : (b : Bool) → ways_in (if b then Once Free else Once Free) ≡ Free ∷ []
one_way true = refl
one_way false = refl

abbrev copy_by : Message → Way → Copy
copy_by m way = record { message = m; way = way }

abbrev posted_as : List Message → Left → Message → Posting
posted_as earlier left m = record { message = m; fate = fate_of script earlier m left }

abbrev FreeCopy : Message → List Copy → Type 0
FreeCopy m cs = (c : Copy) × In c cs × (c.message ≡ m) × (c.way ≡ Free)

copied : (earlier : List Message) (left : Left) (ms : List Message) (m : Message) → In m ms
    → FreeCopy m (flat_map copies_of (post script earlier left ms))
copied earlier left [] m i = elim i [ ]
copied earlier left (x ∷ ms) m (inl e) = (
  copy_by x Free,
  in_front (copy_by x Free) (copies_of (posted_as earlier left x))
      (flat_map copies_of (post script (earlier ++ x ∷ []) (left_after script earlier x left) ms)) first,
  sym e,
  refl,
)
  where
    first : In (copy_by x Free) (copies_of (posted_as earlier left x))
    first = subst (λ ways. In (copy_by x Free) (map (copy_by x) ways)) (sym (one_way (says_down x))) (inl refl)
copied earlier left (x ∷ ms) m (inr i) =
    let r = copied (earlier ++ x ∷ []) (left_after script earlier x left) ms m i in (
      r.0,
      in_back r.0 (copies_of (posted_as earlier left x))
          (flat_map copies_of (post script (earlier ++ x ∷ []) (left_after script earlier x left) ms)) r.1,
      r.2,
      r.3,
    )

-- what tells the messages of the run apart
abbrev body_key : Body → List ℕ
body_key Hello = 1 ∷ []
body_key (Fetch f) = 2 ∷ f.number ∷ []
body_key (Grant g) = 3 ∷ g.bring.number ∷ []
body_key (Change c) = 4 ∷ c.fileset.0 ∷ []
body_key (Done d) = 5 ∷ d.fileset.0 ∷ []
body_key (Revoke r) = 6 ∷ r.stamp ∷ []
body_key (Returned w) = 7 ∷ w.fid.anode ∷ []
body_key (Kept w) = 8 ∷ []
body_key (GiveBack g) = 9 ∷ g.number ∷ []
body_key (Gone n) = 10 ∷ n.number ∷ []
body_key (Reclaim c) = 11 ∷ []
body_key (Reclaimed r) = 12 ∷ []
body_key Restarted = 13 ∷ []
body_key Bye = 14 ∷ []
body_key _ = []

abbrev way_key : Direction → ℕ
way_key ToServer = 0
way_key ToHost = 1
way_key _ = 2

abbrev key : Message → List ℕ
key m = way_key m.direction ∷ m.host.0 ∷ m.epoch ∷ body_key m.body

abbrev differs : Message → Cause → Bool
differs m (Came other) = not (same_name (key m) (key other))
differs m _ = true

planned_message : (past : List Step) (s : Step) (m : Message) → s.cause ≡ Came m
    → list_all (λ (t : Step). differs m t.cause) past ≡ true → In m (sent_in past) → KeepsPlan script (start ∷ []) past s
planned_message past s m is others i = record {
  copies = λ k n j at cn ck.
      let same = cause_of s m k is at in
      let found = copied [] (all_left None) (sent_in past) m i in
      let few = at_most_one (λ (t : Step). t.cause ≡ Came k) s past n (λ t u e. unlike t u (e ∙ ap Came (sym same))) cn in
      let some_ = some_counted (λ (c : Copy). (c.message ≡ k) × MayCome script past c.way)
      (flat_map copies_of (posted script (sent_in past))) j found.0 found.1
      (found.2 ∙ same, subst (MayCome script past) (sym found.3) tt) ck in
      omega (arith, few, some_);
  lapses = λ n k at. absurd (let p : Came m ≡ Lapse = sym is ∙ at in cc);
}
  where
    unlike : (t : Step) → In t past → t.cause ≡ Came m → ⊥
    unlike t u e =
        is_not (same_name (key m) (key m)) (subst (λ c. differs m c ≡ true) e (at_all (λ (t : Step). differs m t.cause)
        past t others u)) (names (key m) (key m) refl)

planned_alone : (past : List Step) (s : Step) → no_message s.cause ≡ true → not (is_lapse s.cause) ≡ true
    → KeepsPlan script (start ∷ []) past s
unfolding no_message is_lapse
planned_alone past s e quiet = record {
  copies = λ m n k at. absurd (none m (subst (λ x. no_message x ≡ true) at e));
  lapses = λ n k at. absurd (calm (subst (λ x. not (is_lapse x) ≡ true) at quiet));
}
  where
    none : (m : Message) → no_message (Came m) ≡ true → ⊥
    none m e = cc

    calm : not (is_lapse Lapse) ≡ true → ⊥
    calm e = cc

abbrev KeepsOn : List Step → Type 0
KeepsOn past = Always (KeepsPlan script (start ∷ [])) past

plan_1 : KeepsOn until_1
unfolding no_message is_lapse
plan_1 = (tt, planned_alone until_0 step_1 refl refl)

plan_2 : KeepsOn until_2
unfolding no_message is_lapse
plan_2 = (
  plan_1,
  planned_message until_1 step_2 (message step_2) refl refl
      (at_place 0 (sent_in until_1) (message step_2) refl),
)

plan_3 : KeepsOn until_3
unfolding no_message is_lapse
plan_3 = (
  plan_2,
  planned_message until_2 step_3 (message step_3) refl refl
      (at_place 1 (sent_in until_2) (message step_3) refl),
)

plan_4 : KeepsOn until_4
unfolding no_message is_lapse
plan_4 = (
  plan_3,
  planned_message until_3 step_4 (message step_4) refl refl
      (at_place 2 (sent_in until_3) (message step_4) refl),
)

plan_5 : KeepsOn until_5
unfolding no_message is_lapse
plan_5 = (
  plan_4,
  planned_message until_4 step_5 (message step_5) refl refl
      (at_place 3 (sent_in until_4) (message step_5) refl),
)

plan_6 : KeepsOn until_6
unfolding no_message is_lapse
plan_6 = (
  plan_5,
  planned_message until_5 step_6 (message step_6) refl refl
      (at_place 4 (sent_in until_5) (message step_6) refl),
)

plan_7 : KeepsOn until_7
unfolding no_message is_lapse
plan_7 = (
  plan_6,
  planned_message until_6 step_7 (message step_7) refl refl
      (at_place 5 (sent_in until_6) (message step_7) refl),
)

plan_8 : KeepsOn until_8
unfolding no_message is_lapse
plan_8 = (
  plan_7,
  planned_message until_7 step_8 (message step_8) refl refl
      (at_place 6 (sent_in until_7) (message step_8) refl),
)

plan_9 : KeepsOn until_9
unfolding no_message is_lapse
plan_9 = (
  plan_8,
  planned_message until_8 step_9 (message step_9) refl refl
      (at_place 7 (sent_in until_8) (message step_9) refl),
)

plan_10 : KeepsOn until_10
unfolding no_message is_lapse
plan_10 = (
  plan_9,
  planned_message until_9 step_10 (message step_10) refl refl
      (at_place 8 (sent_in until_9) (message step_10) refl),
)

plan_11 : KeepsOn until_11
unfolding no_message is_lapse
plan_11 = (
  plan_10,
  planned_message until_10 step_11 (message step_11) refl refl
      (at_place 9 (sent_in until_10) (message step_11) refl),
)

plan_12 : KeepsOn until_12
unfolding no_message is_lapse
plan_12 = (plan_11, planned_alone until_11 step_12 refl refl)

plan_13 : KeepsOn until_13
unfolding no_message is_lapse
plan_13 = (plan_12, planned_alone until_12 step_13 refl refl)

plan_14 : KeepsOn until_14
unfolding no_message is_lapse
plan_14 = (
  plan_13,
  planned_message until_13 step_14 (message step_14) refl refl
      (at_place 10 (sent_in until_13) (message step_14) refl),
)

plan_15 : KeepsOn until_15
unfolding no_message is_lapse
plan_15 = (
  plan_14,
  planned_message until_14 step_15 (message step_15) refl refl
      (at_place 11 (sent_in until_14) (message step_15) refl),
)

plan_16 : KeepsOn until_16
unfolding no_message is_lapse
plan_16 = (
  plan_15,
  planned_message until_15 step_16 (message step_16) refl refl
      (at_place 12 (sent_in until_15) (message step_16) refl),
)

plan_17 : KeepsOn until_17
unfolding no_message is_lapse
plan_17 = (plan_16, planned_alone until_16 step_17 refl refl)

plan_18 : KeepsOn until_18
unfolding no_message is_lapse
plan_18 = (
  plan_17,
  planned_message until_17 step_18 (message step_18) refl refl
      (at_place 13 (sent_in until_17) (message step_18) refl),
)

plan_19 : KeepsOn until_19
unfolding no_message is_lapse
plan_19 = (
  plan_18,
  planned_message until_18 step_19 (message step_19) refl refl
      (at_place 14 (sent_in until_18) (message step_19) refl),
)

plan_20 : KeepsOn until_20
unfolding no_message is_lapse
plan_20 = (plan_19, planned_alone until_19 step_20 refl refl)

plan_21 : KeepsOn until_21
unfolding no_message is_lapse
plan_21 = (
  plan_20,
  planned_message until_20 step_21 (message step_21) refl refl
      (at_place 15 (sent_in until_20) (message step_21) refl),
)

plan_22 : KeepsOn until_22
unfolding no_message is_lapse
plan_22 = (
  plan_21,
  planned_message until_21 step_22 (message step_22) refl refl
      (at_place 16 (sent_in until_21) (message step_22) refl),
)

plan_23 : KeepsOn until_23
unfolding no_message is_lapse
plan_23 = (
  plan_22,
  planned_message until_22 step_23 (message step_23) refl refl
      (at_place 17 (sent_in until_22) (message step_23) refl),
)

plan_24 : KeepsOn until_24
unfolding no_message is_lapse
plan_24 = (
  plan_23,
  planned_message until_23 step_24 (message step_24) refl refl
      (at_place 18 (sent_in until_23) (message step_24) refl),
)

plan_25 : KeepsOn until_25
unfolding no_message is_lapse
plan_25 = (
  plan_24,
  planned_message until_24 step_25 (message step_25) refl refl
      (at_place 19 (sent_in until_24) (message step_25) refl),
)

plan_26 : KeepsOn until_26
unfolding no_message is_lapse
plan_26 = (
  plan_25,
  planned_message until_25 step_26 (message step_26) refl refl
      (at_place 20 (sent_in until_25) (message step_26) refl),
)

plan_27 : KeepsOn until_27
unfolding no_message is_lapse
plan_27 = (
  plan_26,
  planned_message until_26 step_27 (message step_27) refl refl
      (at_place 21 (sent_in until_26) (message step_27) refl),
)

plan_28 : KeepsOn until_28
unfolding no_message is_lapse
plan_28 = (
  plan_27,
  planned_message until_27 step_28 (message step_28) refl refl
      (at_place 22 (sent_in until_27) (message step_28) refl),
)

plan_29 : KeepsOn until_29
unfolding no_message is_lapse
plan_29 = (
  plan_28,
  planned_message until_28 step_29 (message step_29) refl refl
      (at_place 23 (sent_in until_28) (message step_29) refl),
)

plan_30 : KeepsOn until_30
unfolding no_message is_lapse
plan_30 = (
  plan_29,
  planned_message until_29 step_30 (message step_30) refl refl
      (at_place 24 (sent_in until_29) (message step_30) refl),
)

plan_31 : KeepsOn until_31
unfolding no_message is_lapse
plan_31 = (
  plan_30,
  planned_message until_30 step_31 (message step_31) refl refl
      (at_place 25 (sent_in until_30) (message step_31) refl),
)

plan_32 : KeepsOn until_32
unfolding no_message is_lapse
plan_32 = (
  plan_31,
  planned_message until_31 step_32 (message step_32) refl refl
      (at_place 26 (sent_in until_31) (message step_32) refl),
)

plan_33 : KeepsOn until_33
unfolding no_message is_lapse
plan_33 = (
  plan_32,
  planned_message until_32 step_33 (message step_33) refl refl
      (at_place 27 (sent_in until_32) (message step_33) refl),
)

plan_34 : KeepsOn until_34
unfolding no_message is_lapse
plan_34 = (
  plan_33,
  planned_message until_33 step_34 (message step_34) refl refl
      (at_place 28 (sent_in until_33) (message step_34) refl),
)

plan_35 : KeepsOn until_35
unfolding no_message is_lapse
plan_35 = (
  plan_34,
  planned_message until_34 step_35 (message step_35) refl refl
      (at_place 29 (sent_in until_34) (message step_35) refl),
)

plan_36 : KeepsOn until_36
unfolding no_message is_lapse
plan_36 = (plan_35, planned_alone until_35 step_36 refl refl)

plan_37 : KeepsOn until_37
unfolding no_message is_lapse
plan_37 = (
  plan_36,
  planned_message until_36 step_37 (message step_37) refl refl
      (at_place 30 (sent_in until_36) (message step_37) refl),
)

plan_38 : KeepsOn until_38
unfolding no_message is_lapse
plan_38 = (
  plan_37,
  planned_message until_37 step_38 (message step_38) refl refl
      (at_place 31 (sent_in until_37) (message step_38) refl),
)

plan_39 : KeepsOn until_39
unfolding no_message is_lapse
plan_39 = (plan_38, planned_alone until_38 step_39 refl refl)

plan_40 : KeepsOn until_40
unfolding no_message is_lapse
plan_40 = (
  plan_39,
  planned_message until_39 step_40 (message step_40) refl refl
      (at_place 32 (sent_in until_39) (message step_40) refl),
)

plan_41 : KeepsOn until_41
unfolding no_message is_lapse
plan_41 = (
  plan_40,
  planned_message until_40 step_41 (message step_41) refl refl
      (at_place 33 (sent_in until_40) (message step_41) refl),
)

plan_42 : KeepsOn until_42
unfolding no_message is_lapse
plan_42 = (plan_41, planned_alone until_41 step_42 refl refl)

plan_43 : KeepsOn until_43
unfolding no_message is_lapse
plan_43 = (
  plan_42,
  planned_message until_42 step_43 (message step_43) refl refl
      (at_place 34 (sent_in until_42) (message step_43) refl),
)

plan_44 : KeepsOn until_44
unfolding no_message is_lapse
plan_44 = (
  plan_43,
  planned_message until_43 step_44 (message step_44) refl refl
      (at_place 35 (sent_in until_43) (message step_44) refl),
)

plan_45 : KeepsOn until_45
unfolding no_message is_lapse
plan_45 = (plan_44, planned_alone until_44 step_45 refl refl)

plan_46 : KeepsOn until_46
unfolding no_message is_lapse
plan_46 = (
  plan_45,
  planned_message until_45 step_46 (message step_46) refl refl
      (at_place 36 (sent_in until_45) (message step_46) refl),
)

plan_47 : KeepsOn until_47
unfolding no_message is_lapse
plan_47 = (
  plan_46,
  planned_message until_46 step_47 (message step_47) refl refl
      (at_place 37 (sent_in until_46) (message step_47) refl),
)

plan_48 : KeepsOn until_48
unfolding no_message is_lapse
plan_48 = (
  plan_47,
  planned_message until_47 step_48 (message step_48) refl refl
      (at_place 38 (sent_in until_47) (message step_48) refl),
)

plan_49 : KeepsOn until_49
unfolding no_message is_lapse
plan_49 = (
  plan_48,
  planned_message until_48 step_49 (message step_49) refl refl
      (at_place 39 (sent_in until_48) (message step_49) refl),
)

plan_50 : KeepsOn until_50
unfolding no_message is_lapse
plan_50 = (plan_49, planned_alone until_49 step_50 refl refl)

plan_51 : KeepsOn until_51
unfolding no_message is_lapse
plan_51 = (
  plan_50,
  planned_message until_50 step_51 (message step_51) refl refl
      (at_place 40 (sent_in until_50) (message step_51) refl),
)

plan_52 : KeepsOn until_52
unfolding no_message is_lapse
plan_52 = (
  plan_51,
  planned_message until_51 step_52 (message step_52) refl refl
      (at_place 41 (sent_in until_51) (message step_52) refl),
)

pub planned : IsPlanned script journal
planned = plan_52
