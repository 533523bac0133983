-- What stands of the tables once a host has heard a message of which no token is taken: all of them from their parts,
-- and each part, for what is heard.
use Rattle.base_types.specs.declared.ids.Fid.{Fid}
use Rattle.base_types.specs.declared.ids.ServerId.{ServerId}
use Rattle.host_gives.specs.Counters.{last_of}
use Rattle.host_gives.specs.Giving.{Giving}
use Rattle.host_gives.specs.declared.counters.Counter.{Counter}
use Rattle.host_tables.proofs.Lists.{by_test, in_left, true_false}
use Rattle.host_tables.specs.Half.{learning}
use Rattle.host_tables.specs.Hearing.{ClosesCall, ForgetsGives, Heard, HearingStands, HearsRight, IsLearnt}
use Rattle.host_tables.specs.Hearing.{with_heard}
use Rattle.host_tables.specs.Stands.{CallStands, GivesStand, LabelsStand, LeavingStands, LengthsStand, LostStands}
use Rattle.host_tables.specs.Stands.{PartedStands, Stands, TellsLength}
use Rattle.host_tables.specs.Tables.{labelled, length_given, locks_under, ones, opens_under, own_of}
use Rattle.host_gives.specs.declared.leavings.Leaving.{Leaving}
use Rattle.host_lengths.specs.declared.given.Given.{Given}
use Rattle.host_tables.specs.declared.tables.Tables.{Tables}
use Rattle.message_types.specs.declared.giving.AppliedGive.{AppliedGive}
use Rattle.message_types.specs.declared.giving.Give.{Give}
use Rattle.message_types.specs.declared.message.Body.TheVariants.{Bye, GiveBack}
use Rattle.message_types.specs.declared.telling.Done.{Done as DoneOf}
use Rattle.run_rules.specs.Messages.{DoneComes, HasSaid, HasStopped}
use Rattle.run_rules.specs.Past.{EachOnce, In}
use Rattle.run_rules.specs.Tokens.{CauseEnds, GivesUse, HasEndedUse, IsKnown, IsOpen, Learns, LearnsEnd, Made, Owns}
use Rattle.run_rules.specs.Tokens.{number_of}
use Rattle.run_rules.specs.Views.{HasLength, IsLastLength, TakesStatus}
use Rattle.run_rules.specs.declared.step.Asked.{Asked}
use Rattle.run_rules.specs.declared.step.Cause.{Cause}
use Rattle.run_rules.specs.declared.step.Labelled.{Labelled}
use Rattle.run_rules.specs.declared.step.Step.{Step}
use Rattle.script_lines.specs.declared.script.Script.{Script}
use Rattle.std.proofs.Common.{List, None, Option, Some, [], ap, append-nil, append_assoc, arith, eqb-true, flat_map}
use Rattle.std.proofs.Common.{inl, inr, map, refl, subst, sym, true, ◌&&◌, ◌++◌, ◌==◌, ◌↔◌, ◌∙◌, ◌∷◌, ◌≡◌, ◌≤◌, ◌⊎◌}
use Rattle.std.proofs.lemmas.Bool.{and_from, and_parts, eq-eqb}
use Rattle.token_types.specs.declared.token.Token.{Token}
use Rattle.host_tables.proofs.Learning as learning_of

-- the end of a label that is no more leaves the others
once_left : {A : Type 0} (xs ys : List A) → EachOnce (xs ++ ys) → EachOnce xs
once_left [] ys once = tt
once_left (x ∷ xs) ys once = ((λ i. once.0 (in_left xs ys x i)), once_left xs ys once.1)

flat_none : {A B : Type 0} (f : A → List B) (xs : List A) → flat_map f (xs ++ []) ≡ flat_map f xs
flat_none f xs = ap (flat_map f) (append-nil xs)

flat_both : {A B : Type 0} (f : A → List B) (xs ys : List A) → flat_map f (xs ++ ys) ≡ flat_map f xs ++ flat_map f ys
flat_both f [] ys = refl
flat_both f (x ∷ xs) ys = ap (λ l. f x ++ l) (flat_both f xs ys)
    ∙ sym (append_assoc (f x) (flat_map f xs) (flat_map f ys))

flat_front : {A B : Type 0} (f : A → List B) (xs ys : List A) → EachOnce (flat_map f (xs ++ ys))
    → EachOnce (flat_map f (xs ++ []))
flat_front f xs ys once =
    subst EachOnce (sym (flat_none f xs)) (once_left (flat_map f xs) (flat_map f ys)
    (subst EachOnce (flat_both f xs ys) once))

module _ (script : Script) (m : Tables) (x : Heard) (past : List Step) (cause : Cause) (stands : Stands script m past)
    (right : HearsRight m x (learning m.host cause [] ∷ past)) where
  abbrev s : Step
  s = learning m.host cause []

  abbrev new : Tables
  new = with_heard m x

  abbrev front : List Labelled
  front = map labelled m.uses.labels

  labels : LabelsStand (own_of new)
  labels = elim right.ending [
    | inl e ↦ record {
      locks = subst (λ (o : Option Labelled). EachOnce (flat_map (λ (u : Labelled). locks_under m.host u.token.kind u)
          (front ++ ones o)))
          (sym e) stands.labels.locks;
      opens = subst (λ (o : Option Labelled). EachOnce (flat_map (λ (u : Labelled). opens_under m.host u.token.kind u)
          (front ++ ones o)))
          (sym e) stands.labels.opens;
    }
    | inr e ↦ record {
      locks = subst (λ (o : Option Labelled). EachOnce (flat_map (λ (u : Labelled). locks_under m.host u.token.kind u)
          (front ++ ones o)))
          (sym e) (flat_front (λ (u : Labelled). locks_under m.host u.token.kind u) front (ones m.ending)
          stands.labels.locks);
      opens = subst (λ (o : Option Labelled). EachOnce (flat_map (λ (u : Labelled). opens_under m.host u.token.kind u)
          (front ++ ones o)))
          (sym e) (flat_front (λ (u : Labelled). opens_under m.host u.token.kind u) front (ones m.ending)
          stands.labels.opens);
    }
  ]

  call_before : (c : Asked) → x.call ≡ Some c → m.call ≡ Some c
  call_before c e = elim right.call_kept [ inl k ↦ sym k ∙ e | inr k ↦ absurd (let p = sym k ∙ e in cc) ]

  lost : LostStands m.lost x.call (s ∷ past)
  lost c e = learning_of.lost_keeps m.host cause past m.lost m.call stands.lost c (call_before c e)

  none_owned : (v : ServerId) → HasSaid past v Bye → (t : Token) → Owns (s ∷ past) t → ⊥
  none_owned v said t (inl i, _) = elim i [ ]
  none_owned v said t (inr o, _) = (stands.parted v said).none_owned t o

  known : (v : ServerId) → HasSaid past v Bye → (g : Give) → Made (s ∷ past) g → IsKnown (s ∷ past) g
  known v said g (inl i) = elim i [ ]
  known v said g (inr i) = inr ((stands.parted v said).known g i)

  parted : (v : ServerId) → HasSaid (s ∷ past) v Bye → PartedStands x.request x.call v (s ∷ past)
  parted v (e, n, inl p) = elim p.1 [ ]
  parted v (e, n, inr p) = let q = stands.parted v (e, n, p) in record {
    greeted = (q.greeted.0, q.greeted.1, inr q.greeted.2);
    none_asked = elim right.request_kept [ inl k ↦ k ∙ q.none_asked | inr k ↦ k ];
    none_open = elim right.call_kept [ inl k ↦ k ∙ q.none_open | inr k ↦ k ];
    none_owned = none_owned v (e, n, p);
    known = known v (e, n, p);
  }

  live : HasStopped (s ∷ past) → ⊥
  live (v, e, n, inl p) = elim p.1 [ ]
  live (v, e, n, inr p) = stands.live (v, e, n, p)

  pub heard : Stands script new (s ∷ past)
  heard = record {
    user = stands.user;
    limit = stands.limit;
    live = live;
    cache = learning_of.cache_keeps m.host cause past m.cache.held stands.cache;
    contents = learning_of.contents_keep m.host cause past m.cache stands.contents;
    order = learning_of.order_keeps m.host cause past script.roster m.cache.held stands.order;
    dirty = learning_of.dirty_keeps m.host cause past m.dirty stands.dirty;
    lengths = right.lengths;
    uses = learning_of.uses_keep m.host cause past m.uses stands.uses;
    labels = labels;
    gives = right.gives;
    leaving = right.leaving;
    floors = right.floors;
    sites = right.sites;
    request = right.request;
    numbers = learning_of.numbers_keep m.host cause past m.fetched m.changed stands.numbers;
    homes = right.homes;
    call = right.call;
    lost = lost;
    parted = parted;
  }

pub hearing_stands : HearingStands
hearing_stands script m x past cause stands right = heard script m x past cause stands right

-- # Give-backs

-- a give-back that ended a use was made, and says so
pub ended_gives : (past : List Step) (g : Give) (u : Labelled) → HasEndedUse past g u → Made past g × GivesUse g u
ended_gives [] g u h = elim h [ ]
ended_gives (a ∷ past) g u (inl x) = (inl x.0, x.2)
ended_gives (a ∷ past) g u (inr h) = let r = ended_gives past g u h in (inr r.0, r.1)

-- the last length of a file is that of a give-back of the file
last_gives : (past : List Step) (fid : Fid) (g : Give) → IsLastLength past fid g → Made past g × HasLength g fid
last_gives [] fid g l = elim l [ ]
last_gives (a ∷ past) fid g (inl x) = (inl x.0, x.1)
last_gives (a ∷ past) fid g (inr x) = let r = last_gives past fid g x.0 in (inr r.0, r.1)

-- numbers of give-backs, equal or not
same_number : (a b : AppliedGive) → (a ≡ b) ⊎ (a ≡ b → ⊥)
same_number a b = elim (by_test ((a.fileset.0 == b.fileset.0) && (a.number == b.number))) [
  | inl e ↦ (
      let p = and_parts (a.fileset.0 == b.fileset.0) (a.number == b.number) e in
      let x = eqb-true a.fileset.0 b.fileset.0 p.0 in let y = eqb-true a.number b.number p.1 in
      inl (λ i. record { fileset = record { 0 = x i }; number = y i })
      )
  | inr n ↦ inr (λ e. true_false ((a.fileset.0 == b.fileset.0) && (a.number == b.number))
      (and_from (a.fileset.0 == b.fileset.0) (a.number == b.number)
      (eq-eqb a.fileset.0 b.fileset.0 (ap (λ (x : AppliedGive). x.fileset.0) e))
      (eq-eqb a.number b.number (ap (λ (x : AppliedGive). x.number) e))) n)
]

among : (n : AppliedGive) (ns : List AppliedGive) → In n ns ⊎ (In n ns → ⊥)
among n [] = inr (λ i. elim i [ ])
among n (k ∷ ns) = elim (same_number n k) [
  | inl e ↦ inl (inl e)
  | inr d ↦ elim (among n ns) [ inl i ↦ inl (inr i) | inr j ↦ inr (λ i. elim i [ inl e ↦ d e | inr q ↦ j q ]) ]
]

by_option : {A : Type 0} (o : Option A) → (o ≡ None) ⊎ ((a : A) × (o ≡ Some a))
by_option None = inl refl
by_option (Some a) = inr (a, refl)

module _ (script : Script) (m : Tables) (past : List Step) (cause : Cause) (numbers : List AppliedGive)
    (stands : Stands script m past)
    (learns : (g : Give) → Made past g → In (number_of g) numbers → Learns past (learning m.host cause [])
    (number_of g))
    (learns_only : (n : AppliedGive) → Learns past (learning m.host cause []) n → In n numbers) where
  abbrev t : Step
  t = learning m.host cause []

  -- a give-back that is learnt was made and wasn't known, and the other way round
  learnt_is : (g : Give) → IsLearnt m.gives.gives numbers g → Made past g × (IsKnown past g → ⊥)
      × Learns past t (number_of g)
  learnt_is g l =
      let r = stands.gives.made l.message l.within in
      let e : GiveBack g ≡ GiveBack r.0 = sym l.body ∙ r.1 in
      let q : r.0 ≡ g = cc in
      let made : Made past g = subst (Made past) q r.2 in
      (made, (λ k. r.3 (subst (IsKnown past) (sym q) k)), learns g made l.number)

  is_learnt : (g : Give) → Made past g → (IsKnown past g → ⊥) → Learns past t (number_of g)
      → IsLearnt m.gives.gives numbers g
  is_learnt g made unknown l = elim (stands.gives.all g made) [
    | inl k ↦ absurd (unknown k)
    | inr y ↦ record { message = y.0; within = y.1; body = y.2; number = learns_only (number_of g) l }
  ]

  made_before : (g : Give) → Made (t ∷ past) g → Made past g
  made_before g (inl i) = elim i [ ]
  made_before g (inr i) = i

  ended_before : (g : Give) (u : Labelled) → HasEndedUse (t ∷ past) g u → HasEndedUse past g u
  ended_before g u (inl i) = elim i.0 [ ]
  ended_before g u (inr i) = i

  module _ (lengths : List Given) (gives : Giving) (leaving : List Leaving) (ending : Option Labelled)
      (forgets : ForgetsGives m lengths gives leaving ending numbers) where
    pub gives_learnt : GivesStand gives (t ∷ past)
    gives_learnt = record {
      made = λ y i.
          let f = forgets.gives_from y i in let r = stands.gives.made y f.0 in
          (r.0, r.1, inr r.2, λ k. elim k [ inl l ↦ f.1 r.0 r.1 (learns_only (number_of r.0) l) | inr q ↦ r.3 q ]);
      all = λ g i. elim (stands.gives.all g (made_before g i)) [
        | inl k ↦ inl (inr k)
        | inr y ↦ elim (among (number_of g) numbers) [
          | inl j ↦ inl (inl (learns g (made_before g i) j))
          | inr n ↦ inr (y.0, forgets.gives_old y.0 g y.1 y.2 n, y.2)
        ]
      ];
      one = λ g k a b. stands.gives.one g k (made_before g a) (made_before k b);
      last = λ g i. subst (λ (c : List Counter). g.number ≤ last_of c g.fid.fileset) (sym forgets.counters_are)
          (stands.gives.last g (made_before g i));
      counted = λ fs. subst (λ (c : List Counter). (last_of c fs ≡ 0)
          ⊎ ((g : Give) × Made (t ∷ past) g × (g.fid.fileset ≡ fs) × (g.number ≡ last_of c fs)))
          (sym forgets.counters_are)
          (elim (stands.gives.counted fs) [ inl e ↦ inl e | inr r ↦ inr (r.0, inr r.1, r.2, r.3) ]);
    }

    number_same : (a b : Give) → a.fid.fileset ≡ b.fid.fileset → a.number ≡ b.number → number_of a ≡ number_of b
    number_same a b e f = λ i. record { fileset = e i; number = f i }

    pub leaving_learnt : LeavingStands leaving ending (t ∷ past)
    leaving_learnt = record {
      tokens = λ g i mk j unknown.
          let r = stands.leaving.tokens g i (made_before g mk) j (λ k. unknown (inr k)) in (
            r.0,
            forgets.leaving_old r.0 r.1 (λ k l at number. unknown (inl (subst (Learns past t)
                (number_same k g (at ∙ r.3) (number ∙ r.4)) (learnt_is k l).2))),
            r.2,
            r.3,
            r.4,
          );
      from = λ y i.
          let f = forgets.leaving_from y i in let r = stands.leaving.from y f.0 in (
            inr r.0,
            (
              r.1.0,
              inr r.1.1,
              (λ k. elim k [
                | inl l ↦ f.1 r.1.0 (is_learnt r.1.0 r.1.1 r.1.2 l) (sym r.1.5) (sym r.1.6)
                | inr q ↦ r.1.2 q
              ]),
              r.1.3,
              r.1.4,
              r.1.5,
              r.1.6,
            ),
          );
      ends = λ u e. elim forgets.ending_is [
        | inl k ↦ (
            let r = stands.leaving.ends u (sym k.0 ∙ e) in (
              r.0,
              (
                r.1.0,
                inr r.1.1,
                λ q. elim q [
                  | inl l ↦ (let h = ended_gives past r.1.0 u r.1.1 in
                      k.1 r.1.0 h.1.0 (is_learnt r.1.0 h.0 r.1.2 l) h.1.1)
                  | inr q ↦ r.1.2 q
                ],
              ),
            )
            )
        | inr k ↦ absurd (let p = sym k.0 ∙ e in cc)
      ];
      ended = λ u g h unknown.
          let before = ended_before g u h in
          let made = ended_gives past g u before in
          elim forgets.ending_is [
            | inl k ↦ k.0 ∙ stands.leaving.ended u g before (λ q. unknown (inr q))
            | inr k ↦ absurd (
                let l = learnt_is k.1.0 k.1.2 in
                let same : k.1.0 ≡ g = stands.leaving.one k.1.0 g k.1.1 made.1.0 l.0 made.0 k.1.3 made.1.1 l.1
                (λ q. unknown (inr q)) in
                unknown (inl (subst (λ (y : Give). Learns past t (number_of y)) same l.2))
                )
          ];
      uses = λ g a mg p ug. let r = stands.leaving.uses g a (made_before g mg) p (λ z. ug (inr z)) in (r.0, inr r.1);
      one = λ g k a b mg mk p q ug uk. stands.leaving.one g k a b (made_before g mg) (made_before k mk) p q
          (λ z. ug (inr z)) (λ z. uk (inr z));
    }

    -- lengths
    none_taken : (fid : Fid) → TakesStatus t fid → ⊥
    none_taken fid (k, i, _) = elim i [ ]

    tells : (fid : Fid) (old new : Given) (g : Give) → IsLastLength past fid g → TellsLength old g past
        → new.number ≡ old.number → new.length ≡ old.length → (new.known ≡ true) ↔ ((old.known ≡ true)
        ⊎ ((k : Give) × IsLearnt m.gives.gives numbers k × (k.fid.fileset ≡ fid.fileset) × (k.number ≡ old.number)))
        → TellsLength new g (t ∷ past)
    tells fid old new g last told number length known =
        let has = last_gives past fid g last in
        record {
          number = told.number ∙ sym number;
          length = told.length ∙ ap Some (sym length);
          known = λ e. elim (known.0 e) [
            | inl k ↦ inr (told.known k)
            | inr k ↦ inl (subst (Learns past t) (number_same k.0 g (k.2 ∙ ap (λ (f : Fid). f.fileset) (sym has.1.0))
                (k.3 ∙ sym told.number))
                (learnt_is k.0 k.1).2)
          ];
          unknown = λ e k. elim (by_test old.known) [
            | inl o ↦ true_false new.known (known.1 (inl o)) e
            | inr o ↦ elim k [
              | inl l ↦ true_false new.known (known.1 (inr (
                g,
                is_learnt g has.0 (told.unknown o) l,
                ap (λ (f : Fid). f.fileset) has.1.0,
                told.number,
              ))) e
              | inr q ↦ told.unknown o q
            ]
          ];
        }

    pub lengths_learnt : LengthsStand lengths (t ∷ past)
    lengths_learnt = record {
      some = λ fid given e. elim (by_option (length_given m.lengths fid)) [
        | inl none ↦ absurd (let p = sym (forgets.length_none fid none) ∙ e in cc)
        | inr old ↦ (
            let r = forgets.length_some fid old.0 old.1 in
            let p : Some r.0 ≡ Some given = sym r.1 ∙ e in
            let q : r.0 ≡ given = cc in
            let y = stands.lengths.some fid old.0 old.1 in (
              y.0,
              inr (y.1, none_taken fid, λ other i. elim i [ ]),
              subst (λ (z : Given). TellsLength z y.0 (t ∷ past)) q (tells fid old.0 r.0 y.0 y.1 y.2 r.2 r.3 r.4),
            )
            )
      ];
      all = λ fid give l. elim l [
        | inl i ↦ elim i.0 [ ]
        | inr i ↦ (
            let y = stands.lengths.all fid give i.0 in
            let r = forgets.length_some fid y.0 y.1 in
            (r.0, r.1, tells fid y.0 r.0 give i.0 y.2 r.2 r.3 r.4)
            )
      ];
    }

    pub ending_kept : (ending ≡ m.ending) ⊎ (ending ≡ None)
    ending_kept = elim forgets.ending_is [ inl k ↦ inl k.0 | inr k ↦ inr k.0 ]

  module _ (call : Option Asked) (closes : ClosesCall m call numbers)
      (none_done : (v : ServerId) (d : DoneOf) → DoneComes past (learning m.host cause []) v d → ⊥) where
    ends_by : (c : Asked) → CauseEnds past t c → LearnsEnd past t c
    ends_by c (inl (v, d, r, k, _)) = absurd (none_done v d k.0)
    ends_by c (inr l) = l

    pub call_learnt : CallStands call m.begun (t ∷ past)
    call_learnt = record { is_open = is_open; asked = asked; begun = let b = stands.call.begun in omega (arith, b) }
      where
        is_open : (c : Asked) → call ≡ Some c → IsOpen (t ∷ past) c
        is_open c e = elim (by_option m.call) [
          | inl none ↦ absurd (let p = sym (closes.none none) ∙ e in cc)
          | inr d ↦ elim (closes.some d.0 d.1) [
            | inl k ↦ (
                let p : Some d.0 ≡ Some c = sym k.0 ∙ e in
                let q : d.0 ≡ c = cc in
                subst (IsOpen (t ∷ past)) q (inr (
                  stands.call.is_open d.0 d.1,
                  (λ z.
                      let l = ends_by d.0 z in k.1 l.0 l.1 (is_learnt l.0 l.2 l.6 l.5) l.3 l.4),
                  λ a i. elim i [ ],
                ))
                )
            | inr k ↦ absurd (let p = sym k.0 ∙ e in cc)
          ]
        ]

        asked : (c : Asked) → IsOpen (t ∷ past) c → call ≡ Some c
        asked c (inl e) = absurd (cc)
        asked c (inr o) = elim (closes.some c (stands.call.asked c o.0)) [
          | inl k ↦ k.0
          | inr k ↦ absurd (let l = learnt_is k.1.0 k.1.2 in o.1 (inr (k.1.0, k.1.1, l.0, k.1.3, k.1.4, l.2, l.1)))
        ]

    pub call_kept : (call ≡ m.call) ⊎ (call ≡ None)
    call_kept = elim (by_option m.call) [
      | inl e ↦ inr (closes.none e)
      | inr c ↦ elim (closes.some c.0 c.1) [ inl k ↦ inl (k.0 ∙ sym c.1) | inr k ↦ inr k.0 ]
    ]
