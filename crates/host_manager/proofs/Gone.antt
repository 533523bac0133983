-- What a host forgets of a give-back that is known as applied.
use Rattle.base_types.specs.Ids.{same_fid}
use Rattle.base_types.specs.declared.ids.Fid.{Fid}
use Rattle.base_types.specs.declared.ids.FilesetId.{FilesetId}
use Rattle.host_gives.proofs.Adding.{takes_any}
use Rattle.host_gives.proofs.Staying.{first_behind, first_here}
use Rattle.host_gives.specs.Giving.{Giving, IsSound as IsSoundGives, after_take_out, given_in, is_numbered, is_of}
use Rattle.host_gives.specs.Giving.{number_of as message_number, taken_out, without}
use Rattle.host_manager.specs.Learning.{closed_by, ends_in, is_leaving_by}
use Rattle.host_tables.proofs.Lists.{any_in, by_test, filter_in, in_filter, not_true, or_left, or_right, same_fid_is}
use Rattle.host_tables.proofs.Lists.{true_false, true_not}
use Rattle.host_tables.proofs.Outstanding.{found_in, found_some, number_is}
use Rattle.host_tables.proofs.Updating.{reads_after}
use Rattle.host_tables.specs.Hearing.{ClosesCall, ForgetsGives, IsLearnt}
use Rattle.host_tables.specs.Stands.{Stands}
use Rattle.host_tables.specs.Tables.{length_given}
use Rattle.host_tables.specs.Updates.{known_by as known_is}
use Rattle.host_gives.specs.declared.leavings.Leaving.{Leaving}
use Rattle.host_lengths.specs.declared.given.Given.{Given}
use Rattle.host_tables.specs.declared.tables.Tables.{Tables}
use Rattle.message_types.specs.declared.giving.AppliedGive.{AppliedGive}
use Rattle.message_types.specs.declared.giving.Give.{Give}
use Rattle.message_types.specs.declared.message.Body.{Body}
use Rattle.message_types.specs.declared.message.Body.TheVariants.{GiveBack}
use Rattle.message_types.specs.declared.message.Message.{Message}
use Rattle.message_types.specs.declared.giving.Ends.{Ends}
use Rattle.host_manager.proofs.Given.{of_body}
use Rattle.run_rules.specs.Past.{In}
use Rattle.run_rules.specs.Tokens.{IsKnown, Made, number_of}
use Rattle.run_rules.specs.declared.step.Asked.{Asked}
use Rattle.run_rules.specs.declared.step.Labelled.{Labelled}
use Rattle.run_rules.specs.declared.step.Step.{Step}
use Rattle.script_lines.specs.declared.script.Script.{Script}
use Rattle.std.proofs.Common.{Bool, List, None, Option, Some, [], ap, eq-eqb, eqb-true, false, filter, if◌then◌else◌}
use Rattle.std.proofs.Common.{inl, inr, is_some, map, not, refl, subst, sym, true, ◌&&◌, ◌==◌, ◌||◌, ◌↔◌, ◌∙◌, ◌∷◌}
use Rattle.std.proofs.Common.{◌≡◌, ◌⊎◌}
use Rattle.std.proofs.lemmas.Bool.{and_from, and_parts}
use Rattle.std.specs.List.{list_any}
use Rattle.std.specs.Option.{option_map, option_map_or}

-- # A list without the first that passes
pub left_in : (test : Message → Bool) (xs : List Message) (z : Message) → In z xs → test z ≡ false
    → In z (without test xs)
left_in test [] z i e = elim i [ ]
left_in test (x ∷ xs) z i e = elim (by_test (test x)) [
  | inl t ↦ subst (In z) (sym (first_here test x xs t)) (elim i [
    | inl p ↦ absurd (true_false (test x) t (ap test (sym p) ∙ e))
    | inr j ↦ j
  ])
  | inr f ↦ subst (In z) (sym (first_behind test x xs f)) (elim i [
    | inl p ↦ inl p
    | inr j ↦ inr (left_in test xs z j e)
  ])
]

pub in_left_of : (test : Message → Bool) (xs : List Message) (z : Message) → In z (without test xs) → In z xs
in_left_of test [] z i = elim i [ ]
in_left_of test (x ∷ xs) z i = elim (by_test (test x)) [
  | inl t ↦ inr (subst (In z) (first_here test x xs t) i)
  | inr f ↦ elim (subst (In z) (first_behind test x xs f) i) [
    | inl p ↦ inl p
    | inr j ↦ inr (in_left_of test xs z j)
  ]
]

-- # The give-back with this number, among some of those that aren't known as applied
module _ (script : Script) (was : Tables) (past : List Step) (stands : Stands script was past) (m : Tables)
    (among : (y : Message) → In y m.gives.gives → In y was.gives.gives) (sound : IsSoundGives m.gives)
    (n : AppliedGive) where
  abbrev test : Message → Bool
  test y = is_numbered n.fileset n.number y

  -- its number is this one
  number_test : (y : Message) (g : Give) → y.body ≡ GiveBack g → number_of g ≡ n → test y ≡ true
  number_test y g b e =
      let of = of_body y g n.fileset b
      ∙ eq-eqb g.fid.fileset.0 n.fileset.0 (ap (λ (x : AppliedGive). x.fileset.0) e) in
      let number = number_is y g b ∙ ap (λ (x : AppliedGive). x.number) e in
      and_from (is_of n.fileset y) (message_number y == n.number) of (eq-eqb (message_number y) n.number number)

  test_number : (y : Message) (g : Give) → y.body ≡ GiveBack g → test y ≡ true → number_of g ≡ n
  test_number y g b t =
      let p = and_parts (is_of n.fileset y) (message_number y == n.number) t in
      let fs = eqb-true g.fid.fileset.0 n.fileset.0 (sym (of_body y g n.fileset b) ∙ p.0) in
      let k = sym (number_is y g b) ∙ eqb-true (message_number y) n.number p.1 in
      λ i. record { fileset = record { 0 = fs i }; number = k i }

  only_n : (k : AppliedGive) → In k (n ∷ []) → k ≡ n
  only_n k (inl e) = e
  only_n k (inr z) = elim z [ ]

  -- none has it
  module _ (none : taken_out m.gives n.fileset n.number ≡ None) where
    not_learnt : (g : Give) → IsLearnt m.gives.gives (n ∷ []) g → ⊥
    not_learnt g l =
        let t = number_test l.message g l.body (only_n (number_of g) l.number) in
        let r = found_some test m.gives.gives l.message l.within t in
        let p = sym none ∙ r.1 in absurd (cc)

    pub forgets_none : ForgetsGives m m.lengths m.gives m.leaving m.ending (n ∷ [])
    forgets_none = record {
      gives_from = λ y i. (i, λ g b k. not_learnt g (record { message = y; within = i; body = b; number = k }));
      gives_old = λ y g i b k. i;
      counters_are = refl;
      leaving_from = λ y i. (i, λ g l e q. not_learnt g l);
      leaving_old = λ y i none. i;
      length_some = λ fid given e. (
        given,
        e,
        refl,
        refl,
        ((λ k. inl k), λ z. elim z [ inl k ↦ k | inr r ↦ absurd (not_learnt r.0 r.1) ]),
      );
      length_none = λ fid e. e;
      ending_is = inl (refl, λ g ends l e. not_learnt g l);
    }

    pub closes_none : ClosesCall m m.call (n ∷ [])
    closes_none = record {
      some = λ c e. inl (e, λ g ends l q k. not_learnt g l);
      none = λ e. e;
    }

  -- one has it
  module _ (y : Message) (taken : taken_out m.gives n.fileset n.number ≡ Some y) where
    pub found : In y m.gives.gives × (test y ≡ true)
    found = found_in test m.gives.gives y taken

    pub its : (g : Give) × (y.body ≡ GiveBack g) × Made past g × (IsKnown past g → ⊥)
    its = stands.gives.made y (among y found.0)

    abbrev k : Give
    k = its.0

    its_number : number_of k ≡ n
    its_number = test_number y k its.1 found.1

    k_learnt : IsLearnt m.gives.gives (n ∷ []) k
    k_learnt = record { message = y; within = found.0; body = its.1; number = inl its_number }

    -- it is the only one
    learnt_is : (g : Give) → IsLearnt m.gives.gives (n ∷ []) g → g ≡ k
    learnt_is g l =
        let r = stands.gives.made l.message (among l.message l.within) in
        let b : GiveBack g ≡ GiveBack r.0 = sym l.body ∙ r.1 in
        let q : r.0 ≡ g = cc in
        stands.gives.one g k (subst (Made past) q r.2) its.2 (only_n (number_of g) l.number ∙ sym its_number)

    pub none_left : (z : Message) → In z (without test m.gives.gives) → test z ≡ true → ⊥
    none_left z i t =
        let p = (takes_any m.gives n.fileset n.number).is_open sound n.fileset n.number in
        let mine : ((n.fileset.0 == n.fileset.0) && (n.number == n.number)) ≡ true =
        and_from (n.fileset.0 == n.fileset.0) (n.number == n.number) (eq-eqb n.fileset.0 n.fileset.0 refl)
        (eq-eqb n.number n.number refl) in
        let none : list_any test (without test m.gives.gives) ≡ false =
        p ∙ ap (λ (b : Bool). list_any test m.gives.gives && not b) mine ∙ and_no (list_any test m.gives.gives) in
        true_false (list_any test (without test m.gives.gives))
        (any_in test (without test m.gives.gives) z i t) none
      where
        and_no : (b : Bool) → (b && false) ≡ false
        and_no true = refl
        and_no false = refl

    abbrev gives : Giving
    gives = after_take_out m.gives n.fileset n.number

    abbrev leaving : List Leaving
    leaving = filter (λ left. not (is_leaving_by n left)) m.leaving

    abbrev lengths : List Given
    lengths = map (known_is n.fileset n.number) m.lengths

    leaving_test : (z : Leaving) (g : Give) → number_of g ≡ n → g.fid.fileset ≡ z.fileset → g.number ≡ z.number
        → is_leaving_by n z ≡ true
    leaving_test z g e fs number = and_from (z.fileset.0 == n.fileset.0) (z.number == n.number)
        (eq-eqb z.fileset.0 n.fileset.0 (ap (λ (x : FilesetId). x.0) (sym fs)
        ∙ ap (λ (x : AppliedGive). x.fileset.0) e))
        (eq-eqb z.number n.number (sym number ∙ ap (λ (x : AppliedGive). x.number) e))

    test_leaving : (z : Leaving) → is_leaving_by n z ≡ true → (k.fid.fileset ≡ z.fileset) × (k.number ≡ z.number)
    test_leaving z t =
        let p = and_parts (z.fileset.0 == n.fileset.0) (z.number == n.number) t in
        let fs = eqb-true z.fileset.0 n.fileset.0 p.0 in
        let at : z.fileset ≡ n.fileset = λ i. record { 0 = fs i } in (
          ap (λ (x : AppliedGive). x.fileset) its_number ∙ sym at,
          ap (λ (x : AppliedGive). x.number) its_number ∙ sym (eqb-true z.number n.number p.1),
        )

    known_cases : (given : Given) → ((known_is n.fileset n.number given).known ≡ true)
        ↔ ((given.known ≡ true) ⊎ ((g : Give) × IsLearnt m.gives.gives (n ∷ []) g
        × (g.fid.fileset ≡ given.fid.fileset) × (g.number ≡ given.number)))
    known_cases given = (
      (λ e. elim (by_test given.known) [
        | inl t ↦ inl t
        | inr f ↦
            let q : ((given.fid.fileset.0 == n.fileset.0) && (given.number == n.number)) ≡ true =
            ap (λ (b : Bool). b || ((given.fid.fileset.0 == n.fileset.0) && (given.number == n.number))) (sym f)
            ∙ e in
            let p = and_parts (given.fid.fileset.0 == n.fileset.0) (given.number == n.number) q in
            let fs = eqb-true given.fid.fileset.0 n.fileset.0 p.0 in
            let at : given.fid.fileset ≡ n.fileset = λ i. record { 0 = fs i } in
            inr (
              k,
              k_learnt,
              ap (λ (x : AppliedGive). x.fileset) its_number ∙ sym at,
              ap (λ (x : AppliedGive). x.number) its_number ∙ sym (eqb-true given.number n.number p.1),
            )
      ]),
      λ z. elim z [
        | inl t ↦ or_left given.known ((given.fid.fileset.0 == n.fileset.0) && (given.number == n.number)) t
        | inr r ↦
            let e = only_n (number_of r.0) r.1.number in
            or_right given.known ((given.fid.fileset.0 == n.fileset.0) && (given.number == n.number))
            (and_from (given.fid.fileset.0 == n.fileset.0) (given.number == n.number)
            (eq-eqb given.fid.fileset.0 n.fileset.0 (ap (λ (x : FilesetId). x.0) (sym r.2)
            ∙ ap (λ (x : AppliedGive). x.fileset.0) e))
            (eq-eqb given.number n.number (sym r.3 ∙ ap (λ (x : AppliedGive). x.number) e)))
      ],
    )

    pub ends_of : ends_in y ≡ k.ends
    ends_of = ap (λ (b : Body). option_map_or (λ (give : Give). give.ends) (given_in b) None) its.1

    given_at : (fid : Fid) (given : Given) → length_given m.lengths fid ≡ Some given → given.fid ≡ fid
    given_at fid given e =
        same_fid_is given.fid fid (found_in (λ (x : Given). same_fid x.fid fid) m.lengths given e).1

    forgets_with : (ending : Option Labelled)
        → ((ending ≡ m.ending) × ((g : Give) (ends : Ends) → IsLearnt m.gives.gives (n ∷ []) g → g.ends ≡ Some ends
        → ⊥))
        ⊎ ((ending ≡ None) × ((g : Give) × (ends : Ends) × IsLearnt m.gives.gives (n ∷ []) g × (g.ends ≡ Some ends)))
        → ForgetsGives m lengths gives leaving ending (n ∷ [])
    forgets_with ending ending_is = record {
      gives_from = λ z i. (
        in_left_of test m.gives.gives z i,
        λ g b j. none_left z i (number_test z g b (only_n (number_of g) j)),
      );
      gives_old = λ z g i b other. left_in test m.gives.gives z i (elim (by_test (test z)) [
        | inl t ↦ absurd (other (inl (test_number z g b t)))
        | inr f ↦ f
      ]);
      counters_are = refl;
      leaving_from = λ z i.
          let r = in_filter (λ left. not (is_leaving_by n left)) m.leaving z i in (
            r.0,
            λ g l fs number. not_true (is_leaving_by n z) r.1
                (leaving_test z g (only_n (number_of g) l.number) fs number),
          );
      leaving_old = λ z i other. filter_in (λ left. not (is_leaving_by n left)) m.leaving z i
          (true_not (is_leaving_by n z) (λ t. let r = test_leaving z t in other k k_learnt r.0 r.1));
      length_some = λ fid given e.
          let at = given_at fid given e in (
            known_is n.fileset n.number given,
            reads_after.known m.lengths n.fileset n.number fid
                ∙ ap (option_map (known_is n.fileset n.number)) e,
            refl,
            refl,
            subst (λ (f : Fid). ((known_is n.fileset n.number given).known ≡ true)
                ↔ ((given.known ≡ true) ⊎ ((g : Give) × IsLearnt m.gives.gives (n ∷ []) g
                × (g.fid.fileset ≡ f.fileset) × (g.number ≡ given.number)))) at (known_cases given),
          );
      length_none = λ fid e. reads_after.known m.lengths n.fileset n.number fid
          ∙ ap (option_map (known_is n.fileset n.number)) e;
      ending_is = ending_is;
    }

    -- by what the give-back ends
    module _ (ends : Option Ends) (ends_is : k.ends ≡ ends) where
      pub forgets_it : ForgetsGives m lengths gives leaving (if is_some ends then None else m.ending) (n ∷ [])
      forgets_it = by_ends ends ends_is
        where
          by_ends : (o : Option Ends) → k.ends ≡ o
              → ForgetsGives m lengths gives leaving (if is_some o then None else m.ending) (n ∷ [])
          by_ends None e = forgets_with m.ending (inl (
            refl,
            λ g x l q.
                let p = sym e ∙ ap (λ (z : Give). z.ends) (sym (learnt_is g l)) ∙ q in absurd (cc),
          ))
          by_ends (Some x) e = forgets_with None (inr (refl, (k, x, k_learnt, e)))

      pub closes_it : ClosesCall m (closed_by ends m.call) (n ∷ [])
      closes_it = by_call m.call refl ends ends_is
        where
          by_call : (c : Option Asked) → m.call ≡ c → (o : Option Ends) → k.ends ≡ o
              → ClosesCall m (closed_by o c) (n ∷ [])
          by_call None e None q = record { some = λ c f. absurd (let p = sym e ∙ f in cc); none = λ f. refl }
          by_call None e (Some x) q = record { some = λ c f. absurd (let p = sym e ∙ f in cc); none = λ f. refl }
          by_call (Some a) e None q = record {
            some = λ c f.
                let p : Some a ≡ Some c = sym e ∙ f in
                inl (
                  p,
                  λ g x l r z. let s = sym q ∙ ap (λ (w : Give). w.ends) (sym (learnt_is g l))
                      ∙ r in absurd (cc),
                );
            none = λ f. absurd (let p = sym e ∙ f in cc);
          }
          by_call (Some a) e (Some x) q = by_number (by_test (a.k == x.k))
            where
              by_number : ((a.k == x.k) ≡ true) ⊎ ((a.k == x.k) ≡ false)
                  → ClosesCall m (if a.k == x.k then None else Some a) (n ∷ [])
              by_number (inl t) = record {
                some = λ c f.
                    let p : Some a ≡ Some c = sym e ∙ f in
                    let same : a ≡ c = cc in
                    inr (
                      ap (λ (b : Bool). if b then None else Some a) t,
                      (k, x, k_learnt, q, sym (eqb-true a.k x.k t) ∙ ap (λ (z : Asked). z.k) same),
                    );
                none = λ f. absurd (let p = sym e ∙ f in cc);
              }
              by_number (inr f) = record {
                some = λ c h.
                    let p : Some a ≡ Some c = sym e ∙ h in
                    let same : a ≡ c = cc in
                    inl (
                      ap (λ (b : Bool). if b then None else Some a) f ∙ p,
                      λ g y l r z.
                          let s : Some x ≡ Some y = sym q ∙ ap (λ (w : Give). w.ends) (sym (learnt_is g l)) ∙ r in
                          let xy : x ≡ y = cc in
                          true_false (a.k == x.k) (eq-eqb a.k x.k (ap (λ (w : Asked). w.k) same ∙ sym z
                          ∙ ap (λ (w : Ends). w.k) (sym xy))) f,
                    );
                none = λ h. absurd (let p = sym e ∙ h in cc);
              }
