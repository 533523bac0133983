-- The run of two hosts that the rules admit is quiet and rests: no law of runs that rest asks for what never is.
use Rattle.std.proofs.Common.{Bool, List, None, [], ap, arith, false, if◌then◌else◌, inl, inr, length, refl, subst}
use Rattle.std.proofs.Common.{sym, true, ◌++◌, ◌<◌, ◌∙◌, ◌∷◌, ◌≡◌}
use Rattle.std.specs.Prelude.{drop}
use Rattle.base_types.specs.declared.ids.ServerId.{ServerId}
use Rattle.tree_calls.specs.declared.call.Call.TheVariants.{Lock}
use Rattle.script_lines.specs.Sound.{IsSound}
use Rattle.script_lines.specs.declared.script.Deed.{Deed}
use Rattle.script_lines.specs.declared.script.Deed.TheVariants.{Call as MakesCall, Restart}
use Rattle.script_lines.specs.declared.script.Line.{Line}
use Rattle.message_types.specs.declared.message.Message.{Message}
use Rattle.run_examples.proofs.Ended.{is_whole}
use Rattle.run_examples.proofs.GrantWords.{keeps_none, none_kept}
use Rattle.run_examples.specs.Journal.{journal, locks_too, reads, script, steps}
use Rattle.run_examples.specs.Steps.{locks, unlocks, writes}
use Rattle.run_examples.specs.Journal.{step_1, step_10, step_11, step_12, step_13, step_14, step_15, step_16, step_17}
use Rattle.run_examples.specs.Journal.{step_18, step_19, step_2, step_20, step_21, step_22, step_23, step_24, step_25}
use Rattle.run_examples.specs.Journal.{step_26, step_27, step_28, step_29, step_3, step_30, step_31, step_32, step_33}
use Rattle.run_examples.specs.Journal.{step_34, step_35, step_36, step_37, step_38, step_39, step_4, step_40, step_41}
use Rattle.run_examples.specs.Journal.{step_42, step_43, step_44, step_45, step_46, step_47, step_48, step_49, step_5}
use Rattle.run_examples.specs.Journal.{step_50, step_51, step_52, step_6, step_7, step_8, step_9}
use Rattle.run_tokens.specs.Worked.{site_one}
use Rattle.run_rules.specs.Doings.{Reserved, doings_of}
use Rattle.run_rules.specs.Past.{In, appended}
use Rattle.run_rules.specs.Plans.{Posting, all_left, left_after, post, says_down, sent_in, ways_in}
use Rattle.run_rules.specs.Runs.{IsRaised, firsts_of, past_of}
use Rattle.run_rules.specs.declared.fate.Fate.{Fate}
use Rattle.run_rules.specs.declared.fate.Fate.TheVariants.{Lost, Once}
use Rattle.run_rules.specs.declared.fate.Left.{Left}
use Rattle.run_rules.specs.declared.fate.Way.TheVariants.{Free, Held}
use Rattle.run_rules.specs.declared.step.Step.{Step}
use Rattle.run_goes_on.proofs.Rested.{ended_runs_rest}
use Rattle.run_goes_on.specs.Ended.{AllIsFlushed, LocksBytes}
use Rattle.run_goes_on.specs.Rest.{AllIsOver, IsTakenIn, NoneIsHeld, posted_by}
use Rattle.run_goes_on.specs.Worked.{RestsWhole}

-- # Without a plan and a net each message has one copy, which may come at once

one_way : (b : Bool) → (if b then Once Free else Once Free) ≡ Once Free
one_way true = refl
one_way false = refl

abbrev IsFree : List Message → Posting → Type 0
IsFree ms p = (p.fate ≡ Once Free) × In p.message ms

free_posts : (ms earlier : List Message) (left : Left) (p : Posting) → In p (post script earlier left ms) → IsFree ms p
free_posts [] earlier left p i = elim i [ ]
free_posts (m ∷ ms) earlier left p (inl e) =
    (ap (λ (x : Posting). x.fate) e ∙ one_way (says_down m), inl (ap (λ (x : Posting). x.message) e))
free_posts (m ∷ ms) earlier left p (inr i) =
    let k = free_posts ms (earlier ++ m ∷ []) (left_after script earlier m left) p i in (k.0, inr k.1)

later_posts : (xs ms earlier : List Message) (left : Left) (p : Posting)
    → In p (drop (length xs) (post script earlier left (xs ++ ms))) → IsFree ms p
later_posts [] ms earlier left p i = free_posts ms earlier left p i
later_posts (x ∷ xs) ms earlier left p i =
    later_posts xs ms (earlier ++ x ∷ []) (left_after script earlier x left) p i

posted_free : (past : List Step) (s : Step) (p : Posting) → In p (posted_by script past s) → IsFree s.sent p
posted_free past s p i = later_posts (sent_in past) s.sent [] (all_left None) p i

-- # Each message of the run is taken in a later step

abbrev Taken : List Step → List Message → Type 0
Taken later [] = Unit {0}
Taken later (m ∷ ms) = IsTakenIn later m × Taken later ms

abbrev TakenOn : List Step → Type 0
TakenOn [] = Unit {0}
TakenOn (s ∷ later) = Taken later s.sent × TakenOn later

taken_in : (later : List Step) (ms : List Message) → Taken later ms → (m : Message) → In m ms → IsTakenIn later m
taken_in later [] t m i = elim i [ ]
taken_in later (x ∷ ms) t m (inl e) = subst (IsTakenIn later) (sym e) t.0
taken_in later (x ∷ ms) t m (inr i) = taken_in later ms t.1 m i

-- the steps, the oldest first, of a place in a run
abbrev back : List Step → List Step → List Step
back [] xs = xs
back (s ∷ past) xs = back past (s ∷ xs)

back_of : (xs past : List Step) → back (appended xs past) [] ≡ back past xs
back_of [] past = refl
back_of (x ∷ xs) past = back_of xs (x ∷ past)

taken_back : (past xs : List Step) → TakenOn (back past xs) → TakenOn xs
taken_back [] xs t = t
taken_back (s ∷ past) xs t = (taken_back past (s ∷ xs) t).1

abbrev rest_52 : List Step
rest_52 = step_52 ∷ []

abbrev rest_51 : List Step
rest_51 = step_51 ∷ rest_52

abbrev rest_50 : List Step
rest_50 = step_50 ∷ rest_51

abbrev rest_49 : List Step
rest_49 = step_49 ∷ rest_50

abbrev rest_48 : List Step
rest_48 = step_48 ∷ rest_49

abbrev rest_47 : List Step
rest_47 = step_47 ∷ rest_48

abbrev rest_46 : List Step
rest_46 = step_46 ∷ rest_47

abbrev rest_45 : List Step
rest_45 = step_45 ∷ rest_46

abbrev rest_44 : List Step
rest_44 = step_44 ∷ rest_45

abbrev rest_43 : List Step
rest_43 = step_43 ∷ rest_44

abbrev rest_42 : List Step
rest_42 = step_42 ∷ rest_43

abbrev rest_41 : List Step
rest_41 = step_41 ∷ rest_42

abbrev rest_40 : List Step
rest_40 = step_40 ∷ rest_41

abbrev rest_39 : List Step
rest_39 = step_39 ∷ rest_40

abbrev rest_38 : List Step
rest_38 = step_38 ∷ rest_39

abbrev rest_37 : List Step
rest_37 = step_37 ∷ rest_38

abbrev rest_36 : List Step
rest_36 = step_36 ∷ rest_37

abbrev rest_35 : List Step
rest_35 = step_35 ∷ rest_36

abbrev rest_34 : List Step
rest_34 = step_34 ∷ rest_35

abbrev rest_33 : List Step
rest_33 = step_33 ∷ rest_34

abbrev rest_32 : List Step
rest_32 = step_32 ∷ rest_33

abbrev rest_31 : List Step
rest_31 = step_31 ∷ rest_32

abbrev rest_30 : List Step
rest_30 = step_30 ∷ rest_31

abbrev rest_29 : List Step
rest_29 = step_29 ∷ rest_30

abbrev rest_28 : List Step
rest_28 = step_28 ∷ rest_29

abbrev rest_27 : List Step
rest_27 = step_27 ∷ rest_28

abbrev rest_26 : List Step
rest_26 = step_26 ∷ rest_27

abbrev rest_25 : List Step
rest_25 = step_25 ∷ rest_26

abbrev rest_24 : List Step
rest_24 = step_24 ∷ rest_25

abbrev rest_23 : List Step
rest_23 = step_23 ∷ rest_24

abbrev rest_22 : List Step
rest_22 = step_22 ∷ rest_23

abbrev rest_21 : List Step
rest_21 = step_21 ∷ rest_22

abbrev rest_20 : List Step
rest_20 = step_20 ∷ rest_21

abbrev rest_19 : List Step
rest_19 = step_19 ∷ rest_20

abbrev rest_18 : List Step
rest_18 = step_18 ∷ rest_19

abbrev rest_17 : List Step
rest_17 = step_17 ∷ rest_18

abbrev rest_16 : List Step
rest_16 = step_16 ∷ rest_17

abbrev rest_15 : List Step
rest_15 = step_15 ∷ rest_16

abbrev rest_14 : List Step
rest_14 = step_14 ∷ rest_15

abbrev rest_13 : List Step
rest_13 = step_13 ∷ rest_14

abbrev rest_12 : List Step
rest_12 = step_12 ∷ rest_13

abbrev rest_11 : List Step
rest_11 = step_11 ∷ rest_12

abbrev rest_10 : List Step
rest_10 = step_10 ∷ rest_11

abbrev rest_9 : List Step
rest_9 = step_9 ∷ rest_10

abbrev rest_8 : List Step
rest_8 = step_8 ∷ rest_9

abbrev rest_7 : List Step
rest_7 = step_7 ∷ rest_8

abbrev rest_6 : List Step
rest_6 = step_6 ∷ rest_7

abbrev rest_5 : List Step
rest_5 = step_5 ∷ rest_6

abbrev rest_4 : List Step
rest_4 = step_4 ∷ rest_5

abbrev rest_3 : List Step
rest_3 = step_3 ∷ rest_4

abbrev rest_2 : List Step
rest_2 = step_2 ∷ rest_3

abbrev rest_1 : List Step
rest_1 = step_1 ∷ rest_2

on_52 : TakenOn rest_52
on_52 = (tt, tt)

on_51 : TakenOn rest_51
on_51 = (((step_52, inl refl, refl), tt), on_52)

on_50 : TakenOn rest_50
on_50 = (((step_51, inl refl, refl), tt), on_51)

on_49 : TakenOn rest_49
on_49 = (tt, on_50)

on_48 : TakenOn rest_48
on_48 = (tt, on_49)

on_47 : TakenOn rest_47
on_47 = (tt, on_48)

on_46 : TakenOn rest_46
on_46 = (((step_49, inr (inr (inl refl)), refl), tt), on_47)

on_45 : TakenOn rest_45
on_45 = (
  (
    (step_46, inl refl, refl),
    (
      (step_47, inr (inl refl), refl),
      (
        (
          step_48,
          inr (inr
              (inl refl)),
          refl,
        ),
        tt,
      ),
    ),
  ),
  on_46,
)

on_44 : TakenOn rest_44
on_44 = (tt, on_45)

on_43 : TakenOn rest_43
on_43 = (((step_44, inl refl, refl), tt), on_44)

on_42 : TakenOn rest_42
on_42 = (((step_43, inl refl, refl), tt), on_43)

on_41 : TakenOn rest_41
on_41 = (tt, on_42)

on_40 : TakenOn rest_40
on_40 = (tt, on_41)

on_39 : TakenOn rest_39
on_39 = (((step_40, inl refl, refl), ((step_41, inr (inl refl), refl), tt)), on_40)

on_38 : TakenOn rest_38
on_38 = (tt, on_39)

on_37 : TakenOn rest_37
on_37 = (((step_38, inl refl, refl), tt), on_38)

on_36 : TakenOn rest_36
on_36 = (((step_37, inl refl, refl), tt), on_37)

on_35 : TakenOn rest_35
on_35 = (tt, on_36)

on_34 : TakenOn rest_34
on_34 = (((step_35, inl refl, refl), tt), on_35)

on_33 : TakenOn rest_33
on_33 = (((step_34, inl refl, refl), tt), on_34)

on_32 : TakenOn rest_32
on_32 = (((step_33, inl refl, refl), tt), on_33)

on_31 : TakenOn rest_31
on_31 = (((step_32, inl refl, refl), tt), on_32)

on_30 : TakenOn rest_30
on_30 = (tt, on_31)

on_29 : TakenOn rest_29
on_29 = (((step_30, inl refl, refl), ((step_31, inr (inl refl), refl), tt)), on_30)

on_28 : TakenOn rest_28
on_28 = (((step_29, inl refl, refl), tt), on_29)

on_27 : TakenOn rest_27
on_27 = (((step_28, inl refl, refl), tt), on_28)

on_26 : TakenOn rest_26
on_26 = (((step_27, inl refl, refl), tt), on_27)

on_25 : TakenOn rest_25
on_25 = (((step_26, inl refl, refl), tt), on_26)

on_24 : TakenOn rest_24
on_24 = (((step_25, inl refl, refl), tt), on_25)

on_23 : TakenOn rest_23
on_23 = (((step_24, inl refl, refl), tt), on_24)

on_22 : TakenOn rest_22
on_22 = (((step_23, inl refl, refl), tt), on_23)

on_21 : TakenOn rest_21
on_21 = (((step_22, inl refl, refl), tt), on_22)

on_20 : TakenOn rest_20
on_20 = (((step_21, inl refl, refl), tt), on_21)

on_19 : TakenOn rest_19
on_19 = (tt, on_20)

on_18 : TakenOn rest_18
on_18 = (((step_19, inl refl, refl), tt), on_19)

on_17 : TakenOn rest_17
on_17 = (((step_18, inl refl, refl), tt), on_18)

on_16 : TakenOn rest_16
on_16 = (tt, on_17)

on_15 : TakenOn rest_15
on_15 = (((step_16, inl refl, refl), tt), on_16)

on_14 : TakenOn rest_14
on_14 = (((step_15, inl refl, refl), tt), on_15)

on_13 : TakenOn rest_13
on_13 = (((step_14, inl refl, refl), tt), on_14)

on_12 : TakenOn rest_12
on_12 = (tt, on_13)

on_11 : TakenOn rest_11
on_11 = (tt, on_12)

on_10 : TakenOn rest_10
on_10 = (((step_11, inl refl, refl), tt), on_11)

on_9 : TakenOn rest_9
on_9 = (((step_10, inl refl, refl), tt), on_10)

on_8 : TakenOn rest_8
on_8 = (((step_9, inl refl, refl), tt), on_9)

on_7 : TakenOn rest_7
on_7 = (((step_8, inl refl, refl), tt), on_8)

on_6 : TakenOn rest_6
on_6 = (((step_7, inl refl, refl), tt), on_7)

on_5 : TakenOn rest_5
on_5 = (((step_6, inl refl, refl), tt), on_6)

on_4 : TakenOn rest_4
on_4 = (((step_5, inl refl, refl), tt), on_5)

on_3 : TakenOn rest_3
on_3 = (((step_4, inl refl, refl), tt), on_4)

on_2 : TakenOn rest_2
on_2 = (((step_3, inl refl, refl), tt), on_3)

on_1 : TakenOn rest_1
on_1 = (((step_2, inl refl, refl), tt), on_2)

taken_all : (past later : List Step) (s : Step) → appended (s ∷ later) past ≡ past_of journal → (m : Message)
    → In m s.sent → IsTakenIn later m
taken_all past later s e m i = taken_in later s.sent (taken_back past (s ∷ later) whole).0 m i
  where
    same : back past (s ∷ later) ≡ steps
    same =
        sym (back_of (s ∷ later) past) ∙ (ap (λ (L : List Step). back L []) e ∙ back_of steps [])

    whole : TakenOn (back past (s ∷ later))
    whole = subst TakenOn (sym same) on_1

all_over : AllIsOver script (past_of journal)
all_over past later s p e i =
    let k = posted_free past s p i in
    record {
      taken = λ way w may. inl (taken_all past later s e p.message k.1);
      lapsed = λ lost. absurd (let z : Once Free ≡ Lost = sym k.0 ∙ lost in cc);
    }

none_held : NoneIsHeld script (past_of journal)
none_held past later s p flag e i held = go (subst (λ (f : Fate). In (Held flag) (ways_in f)) k.0 held)
  where
    k : IsFree s.sent p
    k = posted_free past s p i

    go : In (Held flag) (Free ∷ []) → IsRaised script (past_of journal) flag
    go (inl q) = absurd (cc)
    go (inr none) = elim none [ ]

-- # The exporter keeps nothing, and the script is sound

flushed : AllIsFlushed script journal
unfolding keeps_none
flushed server token part reserved = elim part [
  | inl p ↦ none_kept (doings_of 1 site_one (past_of journal)) token refl
      (subst (λ (v : ServerId). Reserved (doings_of (firsts_of journal v) v (past_of journal)) token) p reserved)
  | inr none ↦ elim none [ ]
]

sound : IsSound script
sound = record {
  servers = refl;
  roster = refl;
  setup = refl;
  lines = refl;
  stops = refl;
  flags = refl;
  numbers = refl;
  count = omega arith;
  plan = refl;
  net = refl;
}

locks_bytes : LocksBytes script
locks_bytes line label place writing from len i deed = by i
  where
    is : (other : Deed) → line.deed ≡ other → other ≡ MakesCall (Lock label place writing from len)
    is other e = sym e ∙ deed

    by : In line script.lines → 0 < len
    by (inl e) =
        absurd (let z : MakesCall writes ≡ MakesCall (Lock label place writing from len) =
        is (MakesCall writes) (ap (λ (l : Line). l.deed) e) in cc)
    by (inr (inl e)) =
        absurd (let z : MakesCall reads ≡ MakesCall (Lock label place writing from len) =
        is (MakesCall reads) (ap (λ (l : Line). l.deed) e) in cc)
    by (inr (inr (inl e))) =
        absurd (let z : Restart ≡ MakesCall (Lock label place writing from len) =
        is Restart (ap (λ (l : Line). l.deed) e) in cc)
    by (inr (inr (inr (inl e)))) =
        let z : MakesCall locks ≡ MakesCall (Lock label place writing from len) =
        is (MakesCall locks) (ap (λ (l : Line). l.deed) e) in
        let ten : 10 ≡ len = cc in
        omega (arith, ten)
    by (inr (inr (inr (inr (inl e))))) =
        let z : MakesCall locks_too ≡ MakesCall (Lock label place writing from len) =
        is (MakesCall locks_too) (ap (λ (l : Line). l.deed) e) in
        let ten : 10 ≡ len = cc in
        omega (arith, ten)
    by (inr (inr (inr (inr (inr (inl e)))))) =
        absurd (let z : MakesCall unlocks ≡ MakesCall (Lock label place writing from len) =
        is (MakesCall unlocks) (ap (λ (l : Line). l.deed) e) in cc)
    by (inr (inr (inr (inr (inr (inr none)))))) = elim none [ ]

pub rests_whole : RestsWhole
rests_whole =
    let rests = ended_runs_rest script journal is_whole.run is_whole.ended flushed in
    record {
      sound = sound;
      locks = locks_bytes;
      quiet = record { run = is_whole.run; dutiful = is_whole.dutiful; over = all_over; none_held = none_held };
      rests = rests.0;
      awaits = rests.1;
      still = rests.2;
    }
