-- Give-backs that become known as applied, one after the other: what a host forgets by them.
use Rattle.base_types.specs.declared.ids.FilesetId.{FilesetId}
use Rattle.host_asks.specs.Asking.{Doing, doing}
use Rattle.host_gives.proofs.Staying.{sound_without}
use Rattle.host_gives.specs.Giving.{Giving, IsSound as IsSoundGives, after_take_out, is_numbered, is_of, is_outstanding}
use Rattle.host_gives.specs.Giving.{number_of as message_number, outstanding, taken_out}
use Rattle.host_leaves.specs.Sending.{with_once}
use Rattle.host_manager.proofs.Given.{of_body}
use Rattle.host_manager.proofs.Repeated.{with_once_has, with_once_keeps}
use Rattle.host_manager.specs.Learning.{closed_by, due_after, due_of, ended_by, ends_in, learning_given}
use Rattle.host_manager.specs.Learning.{without_give}
use Rattle.host_tables.proofs.Lists.{by_test, in_either, in_left, in_right}
use Rattle.host_tables.proofs.Outstanding.{first_outstanding, found_in, found_some, outstanding_is}
use Rattle.host_tables.specs.Hearing.{ClosesCall, ForgetsGives, IsLearnt}
use Rattle.host_tables.specs.Saying.{IsFirst}
use Rattle.host_tables.specs.Stands.{Stands}
use Rattle.host_tables.specs.declared.draft.Draft.{Draft}
use Rattle.host_tables.specs.declared.tables.Tables.{Tables}
use Rattle.message_types.specs.declared.giving.AppliedGive.{AppliedGive}
use Rattle.message_types.specs.declared.giving.Ends.{Ends}
use Rattle.message_types.specs.declared.giving.Give.{Give}
use Rattle.message_types.specs.declared.message.Body.TheVariants.{GiveBack}
use Rattle.message_types.specs.declared.message.Message.{Message}
use Rattle.run_rules.specs.Past.{In}
use Rattle.run_rules.specs.Tokens.{Made, number_of}
use Rattle.run_rules.specs.declared.step.Step.{Step}
use Rattle.script_lines.specs.declared.script.Script.{Script}
use Rattle.std.proofs.Common.{Bool, List, None, Option, Some, [], ap, append-nil, append_assoc, arith, eq-eqb, eqb-true}
use Rattle.std.proofs.Common.{false, fold, if◌then◌else◌, inl, inr, is_some, ltb-true, nat_lt, refl, subst, sym, true}
use Rattle.std.proofs.Common.{ℕ, ◌&&◌, ◌++◌, ◌<◌, ◌==◌}
use Rattle.std.proofs.Common.{◌∙◌, ◌∷◌, ◌≡◌, ◌⊎◌}
use Rattle.std.proofs.lemmas.Bool.{and_from, and_parts, ltb-false}
use Rattle.std.specs.Option.{option_map_or}
use Rattle.host_manager.proofs.Gone as gone_of

-- two numbers of which none is less
equal : (a b : ℕ) → (a < b → ⊥) → (b < a → ⊥) → a ≡ b
equal a b up down = elim (by_test (a == b)) [
  | inl e ↦ eqb-true a b e
  | inr n ↦ elim (by_test (nat_lt a b)) [
    | inl l ↦ absurd (up (ltb-true a b l))
    | inr g ↦ elim (by_test (nat_lt b a)) [
      | inl l ↦ absurd (down (ltb-true b a l))
      | inr h ↦ (let p = ltb-false a b g in let q = ltb-false b a h in omega (arith, p, q))
    ]
  ]
]

-- # Some numbers, and one more
abbrev same_number : AppliedGive → AppliedGive → Bool
same_number a b = (a.fileset.0 == b.fileset.0) && (a.number == b.number)

same_is : (a b : AppliedGive) → same_number a b ≡ true → a ≡ b
same_is a b e =
    let p = and_parts (a.fileset.0 == b.fileset.0) (a.number == b.number) e in
    let fs = eqb-true a.fileset.0 b.fileset.0 p.0 in
    let n = eqb-true a.number b.number p.1 in λ i. record { fileset = record { 0 = fs i }; number = n i }

is_same : (a b : AppliedGive) → a ≡ b → same_number a b ≡ true
is_same a b e = and_from (a.fileset.0 == b.fileset.0) (a.number == b.number)
    (eq-eqb a.fileset.0 b.fileset.0 (ap (λ (x : AppliedGive). x.fileset.0) e))
    (eq-eqb a.number b.number (ap (λ (x : AppliedGive). x.number) e))

listed : (k : AppliedGive) (ns : List AppliedGive) → In k ns ⊎ (In k ns → ⊥)
listed k [] = inr (λ i. elim i [ ])
listed k (n ∷ ns) = elim (by_test (same_number k n)) [
  | inl t ↦ inl (inl (same_is k n t))
  | inr f ↦ elim (listed k ns) [
    | inl i ↦ inl (inr i)
    | inr none ↦ inr (λ i. elim i [
      | inl e ↦ (let p = sym (is_same k n e) ∙ f in absurd (cc))
      | inr j ↦ none j
    ])
  ]
]

module _ (m x : Tables) (ns : List AppliedGive) (n : AppliedGive)
    (before : ForgetsGives m x.lengths x.gives x.leaving x.ending ns) where
  abbrev all : List AppliedGive
  all = ns ++ n ∷ []

  learnt_first : (g : Give) → IsLearnt m.gives.gives ns g → IsLearnt m.gives.gives all g
  learnt_first g l = record {
    message = l.message;
    within = l.within;
    body = l.body;
    number = in_left ns (n ∷ []) (number_of g) l.number;
  }

  learnt_then : (g : Give) → IsLearnt x.gives.gives (n ∷ []) g → IsLearnt m.gives.gives all g
  learnt_then g l = record {
    message = l.message;
    within = (before.gives_from l.message l.within).0;
    body = l.body;
    number = in_right ns (n ∷ []) (number_of g) l.number;
  }

  learnt_split : (g : Give) → IsLearnt m.gives.gives all g
      → IsLearnt m.gives.gives ns g ⊎ IsLearnt x.gives.gives (n ∷ []) g
  learnt_split g l = elim (listed (number_of g) ns) [
    | inl i ↦ inl (record { message = l.message; within = l.within; body = l.body; number = i })
    | inr none ↦ inr (record {
      message = l.message;
      within = before.gives_old l.message g l.within l.body none;
      body = l.body;
      number = elim (in_either ns (n ∷ []) (number_of g) l.number) [ inl i ↦ absurd (none i) | inr i ↦ i ];
    })
  ]

  module _ (new : Tables) (after : ForgetsGives x new.lengths new.gives new.leaving new.ending (n ∷ [])) where
    pub forgets_both : ForgetsGives m new.lengths new.gives new.leaving new.ending all
    forgets_both = record {
      gives_from = λ y i.
          let b = after.gives_from y i in
          let a = before.gives_from y b.0 in (
            a.0,
            λ g is k. elim (in_either ns (n ∷ []) (number_of g) k) [ inl j ↦ a.1 g is j | inr j ↦ b.1 g is j ],
          );
      gives_old = λ y g i is none. after.gives_old y g
          (before.gives_old y g i is (λ k. none (in_left ns (n ∷ []) (number_of g) k))) is
          (λ k. none (in_right ns (n ∷ []) (number_of g) k));
      counters_are = after.counters_are ∙ before.counters_are;
      leaving_from = λ y i.
          let b = after.leaving_from y i in
          let a = before.leaving_from y b.0 in (
            a.0,
            λ g l e q. elim (learnt_split g l) [ inl k ↦ a.1 g k e q | inr k ↦ b.1 g k e q ],
          );
      leaving_old = λ y i none. after.leaving_old y (before.leaving_old y i (λ g l. none g (learnt_first g l)))
          (λ g l. none g (learnt_then g l));
      length_some = λ fid given e.
          let a = before.length_some fid given e in
          let b = after.length_some fid a.0 a.1 in (
            b.0,
            b.1,
            b.2 ∙ a.2,
            b.3 ∙ a.3,
            (
              (λ k. elim (b.4.0 k) [
                | inl q ↦ elim (a.4.0 q) [
                  | inl p ↦ inl p
                  | inr r ↦ inr (r.0, learnt_first r.0 r.1, r.2, r.3)
                ]
                | inr r ↦ inr (r.0, learnt_then r.0 r.1, r.2, r.3 ∙ a.2)
              ]),
              λ z. elim z [
                | inl t ↦ b.4.1 (inl (a.4.1 (inl t)))
                | inr r ↦ elim (learnt_split r.0 r.1) [
                  | inl k ↦ b.4.1 (inl (a.4.1 (inr (r.0, k, r.2, r.3))))
                  | inr k ↦ b.4.1 (inr (r.0, k, r.2, r.3 ∙ sym a.2))
                ]
              ],
            ),
          );
      length_none = λ fid e. after.length_none fid (before.length_none fid e);
      ending_is = elim after.ending_is [
        | inr w ↦ inr (w.0, (w.1.0, w.1.1, learnt_then w.1.0 w.1.2, w.1.3))
        | inl b ↦ elim before.ending_is [
          | inr w ↦ inr (b.0 ∙ w.0, (w.1.0, w.1.1, learnt_first w.1.0 w.1.2, w.1.3))
          | inl a ↦ inl (
            b.0 ∙ a.0,
            λ g ends l q. elim (learnt_split g l) [ inl k ↦ a.1 g ends k q | inr k ↦ b.1 g ends k q ],
          )
        ]
      ];
    }

    pub closes_both : ClosesCall m x.call ns → ClosesCall x new.call (n ∷ []) → ClosesCall m new.call all
    closes_both first second = record {
      some = λ c e. elim (first.some c e) [
        | inr w ↦ inr (second.none w.0, (w.1.0, w.1.1, learnt_first w.1.0 w.1.2, w.1.3, w.1.4))
        | inl a ↦ elim (second.some c a.0) [
          | inr w ↦ inr (w.0, (w.1.0, w.1.1, learnt_then w.1.0 w.1.2, w.1.3, w.1.4))
          | inl b ↦ inl (
            b.0,
            λ g ends l q k. elim (learnt_split g l) [ inl z ↦ a.1 g ends z q k | inr z ↦ b.1 g ends z q k ],
          )
        ]
      ];
      none = λ e. second.none (first.none e);
    }

-- # Those that are known by now
-- these are forgotten; and of which filesets the next one is due
pub record HasForgotten (m : Tables) (d : Draft) (ns : List AppliedGive) (x : Tables) (e : Draft) : Type 0 where
  pub tables : x ≡ record m {
    lengths = x.lengths;
    gives = x.gives;
    leaving = x.leaving;
    ending = x.ending;
    call = x.call;
  }
  pub draft : e ≡ record d { due = e.due }
  pub sound : IsSoundGives x.gives
  pub forgets : ForgetsGives m x.lengths x.gives x.leaving x.ending ns
  pub closes : ClosesCall m x.call ns
  pub due : (g : Give) → IsFirst x.gives g → (IsFirst m.gives g → ⊥) → In g.fid.fileset e.due

none_learnt : (gives : List Message) (g : Give) → IsLearnt gives [] g → ⊥
none_learnt gives g l = elim l.number [ ]

pub none_forgotten : (m : Tables) (d : Draft) → IsSoundGives m.gives → HasForgotten m d [] m d
none_forgotten m d sound = record {
  tables = refl;
  draft = refl;
  sound = sound;
  forgets = record {
    gives_from = λ y i. (i, λ g is k. elim k [ ]);
    gives_old = λ y g i is none. i;
    counters_are = refl;
    leaving_from = λ y i. (i, λ g l e q. none_learnt m.gives.gives g l);
    leaving_old = λ y i none. i;
    length_some = λ fid given e. (
      given,
      e,
      refl,
      refl,
      ((λ k. inl k), λ z. elim z [ inl k ↦ k | inr r ↦ absurd (none_learnt m.gives.gives r.0 r.1) ]),
    );
    length_none = λ fid e. e;
    ending_is = inl (refl, λ g ends l q. none_learnt m.gives.gives g l);
  };
  closes = record { some = λ c e. inl (e, λ g ends l q k. none_learnt m.gives.gives g l); none = λ e. e };
  due = λ g first fresh. absurd (fresh first);
}

due_stays : (n : AppliedGive) (out : Bool) (left : Giving) (e : Draft) (fs : FilesetId) → In fs e.due
    → In fs (due_of n out left e).due
due_stays n out left e fs i = by_if (out && is_some (outstanding left n.fileset))
  where
    by_if : (b : Bool) → In fs (if b then record e { due = with_once e.due n.fileset } else e).due
    by_if true = with_once_keeps e.due n.fileset fs i
    by_if false = i

due_draft : (n : AppliedGive) (out : Bool) (left : Giving) (d e : Draft) → e ≡ record d { due = e.due }
    → due_of n out left e ≡ record d { due = (due_of n out left e).due }
due_draft n out left d e is = by_if (out && is_some (outstanding left n.fileset))
  where
    by_if : (b : Bool) → (if b then record e { due = with_once e.due n.fileset } else e)
        ≡ record d { due = (if b then record e { due = with_once e.due n.fileset } else e).due }
    by_if true = ap (λ (z : Draft). record z { due = with_once e.due n.fileset }) is
    by_if false = is

module _ (script : Script) (m : Tables) (past : List Step) (stands : Stands script m past) (d : Draft) where
  module _ (ns : List AppliedGive) (n : AppliedGive) (x : Tables) (e : Draft) (it : HasForgotten m d ns x e) where
    among : (y : Message) → In y x.gives.gives → In y m.gives.gives
    among y i = (it.forgets.gives_from y i).0

    abbrev rest : Giving
    rest = after_take_out x.gives n.fileset n.number

    abbrev out : Bool
    out = is_outstanding x.gives n.fileset n.number

    sound_rest : IsSoundGives rest
    sound_rest = sound_without x.gives (is_numbered n.fileset n.number) it.sound

    abbrev f : Draft
    f = due_after n x e

    -- the first one was behind the one that is known, if it wasn't the first before
    due_next : (g : Give) → IsFirst rest g → (IsFirst m.gives g → ⊥) → In g.fid.fileset f.due
    due_next g first fresh =
        let was = gone_of.in_left_of (is_numbered n.fileset n.number) x.gives.gives first.message first.within in
        let fs : FilesetId = g.fid.fileset in
        let test = of_body first.message g fs first.body ∙ eq-eqb fs.0 fs.0 refl in
        let w = found_some (is_of fs) x.gives.gives first.message was test in
        let r = outstanding_is x.gives it.sound fs w.0 w.1 in
        let w_in = found_in (is_of fs) x.gives.gives w.0 w.1 in
        elim (by_test (is_numbered n.fileset n.number w.0)) [
          | inr f ↦
              let kept = gone_of.left_in (is_numbered n.fileset n.number) x.gives.gives w.0 w_in.0 f in
              let made = stands.gives.made first.message (among first.message was) in
              let p : GiveBack g ≡ GiveBack made.0 = sym first.body ∙ made.1 in
              let same : made.0 ≡ g = cc in
              let other = stands.gives.made w.0 (among w.0 w_in.0) in
              let q : GiveBack r.0 ≡ GiveBack other.0 = sym r.1 ∙ other.1 in
              let same_o : other.0 ≡ r.0 = cc in
              let up = first.least w.0 r.0 kept r.1 r.2 in
              let down = r.3.least first.message g was first.body (sym r.2) in
              let number : r.0.number ≡ g.number = equal r.0.number g.number up down in
              let is_g = stands.gives.one r.0 g (subst (Made past) same_o other.2) (subst (Made past) same made.2)
              (λ i. record { fileset = r.2 i; number = number i }) in
              due_stays n out rest e fs (it.due g (subst (IsFirst x.gives) is_g r.3) fresh)
          | inl t ↦
              let p = and_parts (is_of n.fileset w.0) (message_number w.0 == n.number) t in
              let of_n = eqb-true r.0.fid.fileset.0 n.fileset.0 (sym (of_body w.0 r.0 n.fileset r.1) ∙ p.0) in
              let at : fs ≡ n.fileset = sym r.2 ∙ (λ i. record { 0 = of_n i }) in
              let first_n : outstanding x.gives n.fileset ≡ Some w.0 =
              subst (λ (z : FilesetId). outstanding x.gives z ≡ Some w.0) at w.1 in
              let is_out : out ≡ true =
              ap (λ (o : Option Message). option_map_or (λ message. message_number message == n.number) o false)
              first_n ∙ p.1 in
              let z = first_outstanding rest sound_rest g first in
              let there : outstanding rest n.fileset ≡ Some z.0 =
              subst (λ (y : FilesetId). outstanding rest y ≡ Some z.0) at z.1 in
              let so : (out && is_some (outstanding rest n.fileset)) ≡ true =
              and_from out (is_some (outstanding rest n.fileset)) is_out
              (ap (λ (o : Option Message). is_some o) there) in
              subst (λ (y : FilesetId). In y f.due) (sym at)
              (subst (λ (b : Bool). In n.fileset (if b then record e { due = with_once e.due n.fileset } else e).due)
              (sym so) (with_once_has e.due n.fileset))
        ]

    abbrev after_it : Option Ends → Tables
    after_it ends = record (without_give n x) {
      ending = if is_some ends then None else x.ending;
      call = closed_by ends x.call;
    }

    ended_is : (y : Message) (ends : Option Ends) → ends_in y ≡ ends → ended_by y (without_give n x) ≡ after_it ends
    ended_is y None q = ap (λ (o : Option Ends). if is_some o
        then record (without_give n x) { ending = None; call = closed_by o x.call } else without_give n x) q
    ended_is y (Some z) q = ap (λ (o : Option Ends). if is_some o
        then record (without_give n x) { ending = None; call = closed_by o x.call } else without_give n x) q

    some_forgotten : (y : Message) → taken_out x.gives n.fileset n.number ≡ Some y
        → HasForgotten m d (ns ++ n ∷ []) (after_it (ends_in y)) f
    some_forgotten y taken =
        let new : Tables = after_it (ends_in y) in
        let ends_are = sym (gone_of.ends_of script m past stands x among it.sound n y taken) in
        let after : ForgetsGives x new.lengths new.gives new.leaving new.ending (n ∷ []) =
        gone_of.forgets_it script m past stands x among it.sound n y taken (ends_in y) ends_are in
        record {
          tables = ap (λ (z : Tables). record z {
            lengths = new.lengths;
            gives = new.gives;
            leaving = new.leaving;
            ending = new.ending;
            call = new.call;
          }) it.tables;
          draft = due_draft n out rest d e it.draft;
          sound = sound_rest;
          forgets = forgets_both m x ns n it.forgets new after;
          closes = closes_both m x ns n it.forgets new after it.closes
              (gone_of.closes_it script m past stands x among it.sound n y taken (ends_in y) ends_are);
          due = due_next;
        }

    none_more : taken_out x.gives n.fileset n.number ≡ None → HasForgotten m d (ns ++ n ∷ []) x e
    none_more none =
        let after = gone_of.forgets_none script m past stands x among it.sound n none in
        record {
          tables = it.tables;
          draft = it.draft;
          sound = it.sound;
          forgets = forgets_both m x ns n it.forgets x after;
          closes = closes_both m x ns n it.forgets x after it.closes
              (gone_of.closes_none script m past stands x among it.sound n none);
          due = it.due;
        }

    pub one_forgotten : HasForgotten m d (ns ++ n ∷ []) (learning_given n (doing x e)).tables
        (learning_given n (doing x e)).draft
    one_forgotten = by_taken (taken_out x.gives n.fileset n.number) refl
      where
        by_taken : (o : Option Message) → taken_out x.gives n.fileset n.number ≡ o
            → HasForgotten m d (ns ++ n ∷ [])
            (option_map_or (λ message. doing (ended_by message (without_give n x)) (due_after n x e)) o
            (doing x e)).tables
            (option_map_or (λ message. doing (ended_by message (without_give n x)) (due_after n x e)) o
            (doing x e)).draft
        by_taken None q = none_more q
        by_taken (Some y) q = subst (λ (z : Tables). HasForgotten m d (ns ++ n ∷ []) z f)
            (sym (ended_is y (ends_in y) refl)) (some_forgotten y q)

  pub forgets_all : (ns done : List AppliedGive) (x : Tables) (e : Draft) → HasForgotten m d done x e
      → HasForgotten m d (done ++ ns) (fold (λ at one. learning_given one at) (doing x e) ns).tables
      (fold (λ at one. learning_given one at) (doing x e) ns).draft
  forgets_all [] done x e it = subst (λ (ns : List AppliedGive). HasForgotten m d ns x e) (sym (append-nil done)) it
  forgets_all (n ∷ ns) done x e it =
      let next : Doing = learning_given n (doing x e) in
      subst (λ (all : List AppliedGive). HasForgotten m d all
      (fold (λ at one. learning_given one at) next ns).tables (fold (λ at one. learning_given one at) next ns).draft)
      (append_assoc done (n ∷ []) ns)
      (forgets_all ns (done ++ n ∷ []) next.tables next.draft (one_forgotten done n x e it))
