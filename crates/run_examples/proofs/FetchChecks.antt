-- All rules of a host's step that sends a new Fetch, computed.
use Rattle.std.proofs.Common.{Bool, List, None, Option, Some, [], ap, false, inl, inr, refl, subst, suc, sym, true}
use Rattle.std.proofs.Common.{ℕ, ◌&&◌, ◌||◌, ◌==◌, ◌∷◌, ◌≡◌, ◌<◌}
use Rattle.std.proofs.lemmas.Bool.{and_from, and_parts, eqb-true, ltb-true, or_cases}
use Rattle.std.specs.Prelude.{nat_lt, not}
use Rattle.std.specs.List.{list_all, list_any}
use Rattle.base_types.specs.Ids.{same_fid}
use Rattle.base_types.specs.declared.ids.Fid.{Fid}
use Rattle.need_host.specs.Walks.{root_of}
use Rattle.message_types.specs.declared.asking.Fetch.{Fetch as FetchOf}
use Rattle.message_types.specs.declared.message.Body.{Body}
use Rattle.message_types.specs.declared.message.Body.TheVariants.{Fetch}
use Rattle.message_types.specs.declared.message.Message.{Message}
use Rattle.token_types.specs.Covers.{Covers}
use Rattle.token_types.specs.declared.token.Kind.{Kind}
use Rattle.token_types.specs.declared.token.Kind.TheVariants.{Bytes, Status, Lock as LockToken, Opening}
use Rattle.token_types.specs.declared.token.Need.{Need}
use Rattle.token_types.specs.declared.token.Token.{Token}
use Rattle.tree_laws.specs.Parts.{Nature}
use Rattle.tree_laws.specs.Parts.Part.{Traits}
use Rattle.run_examples.proofs.DirtWords.{dirty_in, spots}
use Rattle.run_rules.specs.HostAsks.{AsksStatus, FetchNeeds, FileNeeds, HasLost, IsDirectory, IsFetchNumber}
use Rattle.run_rules.specs.HostAsks.{IsNextNumber}
use Rattle.run_rules.specs.HostAsks.FetchNeeds.{OfFile, OfUnknown}
use Rattle.run_rules.specs.Messages.{Said}
use Rattle.run_rules.specs.Past.{In}
use Rattle.run_rules.specs.Tokens.{IsUseKind}
use Rattle.run_rules.specs.Views.{is_dirty, sees}
use Rattle.run_rules.specs.declared.applied.Why.TheVariants.{Revoked}
use Rattle.run_rules.specs.declared.applied.Leave.{Leave}
use Rattle.run_rules.specs.declared.step.Step.{Step}
use Rattle.base_types.specs.declared.span.Span.{Span}
use Rattle.run_examples.proofs.Tests.{all_true, at_all, fid_is, fids, fileset_is, implies, is_not}
use Rattle.run_examples.proofs.Tests.{list_is, not_is, passes, same_fileset, same_kind}
use Rattle.run_examples.proofs.Tests.{filesets, same_list, so, some_in}
use Rattle.run_examples.proofs.Words.{at_said, held, in_said}
use Rattle.run_examples.proofs.Words.{said}
use Rattle.run_examples.proofs.FetchWords.{need_is, same_need}
use Rattle.run_examples.proofs.AnswerChecks.{covers_it, covers_yes, lacks_is, lacks_it}

abbrev pub needs_of : Fid → Bool → Need
needs_of fid update = record { fid = fid; kind = Status update }

abbrev pub status_need : Fid → Need
status_need fid = needs_of fid false

abbrev pub update_need : Fid → Need
update_need fid = needs_of fid true

unfoldable pub is_fetched : Kind → Bool
is_fetched (Bytes update span) = true
is_fetched (Status update) = true
is_fetched _ = false

pub fetched_is : (k : Kind) → is_fetched k ≡ true → IsUseKind k → ⊥
unfolding is_fetched
fetched_is (Bytes update span) e u = u
fetched_is (Status update) e u = u
fetched_is k e u = absurd (cc)

-- nothing of a status was dropped, so none was lost; and nothing of the file is dirty
abbrev pub is_status : Kind → Bool
is_status (Status update) = true
is_status _ = false

abbrev pub keeps_status : Step → Bool
keeps_status s = list_all (λ (l : Leave). not (is_status l.token.kind)) s.dropped

abbrev pub is_quiet : List Step → Fid → Bool
is_quiet now fid = list_all keeps_status now && list_all (λ at. not (is_dirty now fid at)) (spots now fid)

never_lost : (past : List Step) (fid : Fid) → list_all keeps_status past ≡ true → HasLost past fid → ⊥
never_lost [] fid e x = elim x [ ]
never_lost (s ∷ past) fid e (inl ((token, m, (file, (update, kind))), none)) =
    let p = and_parts (keeps_status s) (list_all keeps_status past) e in
    let q = at_all (λ (l : Leave). not (is_status l.token.kind)) s.dropped (record { token = token; why = Revoked }) p.0
    m in
    is_not (is_status token.kind) q (subst (λ k. is_status k ≡ true) (sym kind) refl)
never_lost (s ∷ past) fid e (inr x) =
    never_lost past fid (and_parts (keeps_status s) (list_all keeps_status past) e).1 x.0

never_dirty : (now : List Step) (fid : Fid) (at : ℕ)
    → list_all (λ at. not (is_dirty now fid at)) (spots now fid) ≡ true → is_dirty now fid at ≡ true → ⊥
never_dirty now fid at e d =
    is_not (is_dirty now fid at) (at_all (λ at. not (is_dirty now fid at)) (spots now fid) at e (dirty_in now fid at d)) d

-- What is asked is what the call needs of the file; but for the status, where one for update is held, and where one
-- for reading is needed.
abbrev pub is_of_file : List Token → Fid → Need → Bool
is_of_file held fid n =
    same_fid n.fid fid
    && (is_fetched n.kind && (not (same_need n (status_need fid))
    && not (same_need n (update_need fid) && covers_it held (update_need fid))))

abbrev pub is_asked : List Token → List Need → Fid → Need → Bool
is_asked held needs fid n =
    (same_fid n.fid fid && (is_fetched n.kind && not (same_need n (status_need fid))))
    && (implies (same_need n (update_need fid)) (lacks_it held (update_need fid)) && list_any (same_need n) needs)

abbrev pub asks_it : List Token → List Need → Fid → Need → Bool
asks_it held asked fid n = implies (is_of_file held fid n) (list_any (same_need n) asked)

abbrev pub file_right : List Token → List Need → Fid → List Need → Bool
file_right held needs fid asked =
    list_all (is_asked held needs fid) asked && list_all (asks_it held asked fid) needs

stands : (n : Need) (ns : List Need) → list_any (same_need n) ns ≡ true → In n ns
stands n ns e = let p = some_in (same_need n) ns e in subst (λ k. In k ns) (sym (need_is n p.0 p.2)) p.1

need_itself : (fid : Fid) (update : Bool) → same_need (needs_of fid update) (needs_of fid update) ≡ true
need_itself fid true = and_from (same_fid fid fid) (same_kind (Status true) (Status true)) (fids fid fid refl) refl
need_itself fid false = and_from (same_fid fid fid) (same_kind (Status false) (Status false)) (fids fid fid refl) refl

-- what is said of an asked need
record Asked (held : List Token) (needs : List Need) (fid : Fid) (n : Need) : Type 0 where
  file : same_fid n.fid fid ≡ true
  fetched : is_fetched n.kind ≡ true
  other : not (same_need n (status_need fid)) ≡ true
  lacked : implies (same_need n (update_need fid)) (lacks_it held (update_need fid)) ≡ true
  needed : In n needs

module _ (now : List Step) (held : List Token) (needs : List Need) (fid : Fid) (asked : List Need) where
  parts : (n : Need) → In n asked → list_all (is_asked held needs fid) asked ≡ true → Asked held needs fid n
  parts n m t =
      let one = same_fid n.fid fid && (is_fetched n.kind && not (same_need n (status_need fid))) in
      let lack = implies (same_need n (update_need fid)) (lacks_it held (update_need fid)) in
      let x = and_parts one (lack && list_any (same_need n) needs) (at_all (is_asked held needs fid) asked n t m) in
      let y = and_parts (same_fid n.fid fid) (is_fetched n.kind && not (same_need n (status_need fid))) x.0 in
      let z = and_parts (is_fetched n.kind) (not (same_need n (status_need fid))) y.1 in
      let w = and_parts lack (list_any (same_need n) needs) x.1 in
      record { file = y.0; fetched = z.0; other = z.1; lacked = w.0; needed = stands n needs w.1 }

  asked_too : (n : Need) → In n needs → list_all (asks_it held asked fid) needs ≡ true → n.fid ≡ fid
      → is_fetched n.kind ≡ true → (n ≡ status_need fid → ⊥)
      → ((same_need n (update_need fid) && covers_it held (update_need fid)) ≡ true → ⊥) → In n asked
  asked_too n m t file fetched other lacks =
      let never = not (same_need n (status_need fid)) in
      let both = same_need n (update_need fid) && covers_it held (update_need fid) in
      stands n asked (so (is_of_file held fid n) (list_any (same_need n) asked)
      (at_all (asks_it held asked fid) needs n t m)
      (and_from (same_fid n.fid fid) (is_fetched n.kind && (never && not both)) (fids n.fid fid file)
      (and_from (is_fetched n.kind) (never && not both) fetched
      (and_from never (not both) (not_is (same_need n (status_need fid)) (λ e. other (need_is n (status_need fid) e)))
      (not_is both lacks)))))

  no_bytes : (update : Bool) (span : Span) (to : Bool) → record { fid = fid; kind = Bytes update span } ≡ needs_of fid to → ⊥
  no_bytes update span to e = let k : Bytes update span ≡ Status to = ap (λ (z : Need). z.kind) e in cc

  file_is : is_quiet now fid ≡ true → file_right held needs fid asked ≡ true → FileNeeds now held needs fid asked
  unfolding is_fetched
  file_is quiet e =
      let a = list_all (is_asked held needs fid) asked in
      let b = list_all (asks_it held asked fid) needs in
      let p = and_parts a b e in
      let q = and_parts (list_all keeps_status now) (list_all (λ at. not (is_dirty now fid at)) (spots now fid)) quiet in
      record {
        only = λ n m. let x = parts n m p.0 in (fid_is n.fid fid x.file, fetched_is n.kind x.fetched);
        bytes = λ update at (span, m, has). (
          (span, (parts (record { fid = fid; kind = Bytes update span }) m p.0).needed, has),
          λ d. never_dirty now fid d.0 q.1 d.2,
        );
        bytes_all = λ update at (span, m, has) none. (
          span,
          asked_too (record { fid = fid; kind = Bytes update span }) m p.1 refl refl (no_bytes update span false)
              (λ both. no_bytes update span true (need_is (record { fid = fid; kind = Bytes update span })
              (update_need fid) (and_parts (same_need (record { fid = fid; kind = Bytes update span }) (update_need fid))
              (covers_it held (update_need fid)) both).0)),
          has,
        );
        status = λ update m. status_asked update m p.0;
        status_all = λ update. status_too update p.1 q.0;
      }
    where
      status_asked : (update : Bool) → In (record { fid = fid; kind = Status update }) asked
          → list_all (is_asked held needs fid) asked ≡ true
          → AsksStatus now needs fid update × (Covers held (update_need fid) → ⊥)
      status_asked true m t =
          let x = parts (update_need fid) m t in (
            x.needed,
            lacks_is held (update_need fid) (so (same_need (update_need fid) (update_need fid))
                (lacks_it held (update_need fid)) x.lacked (need_itself fid true)),
          )
      status_asked false m t = absurd (is_not (same_need (status_need fid) (status_need fid))
          (parts (status_need fid) m t).other (need_itself fid false))

      status_too : (update : Bool) → list_all (asks_it held asked fid) needs ≡ true
          → list_all keeps_status now ≡ true → AsksStatus now needs fid update → (Covers held (update_need fid) → ⊥)
          → In (record { fid = fid; kind = Status update }) asked
      status_too true t kept m none = asked_too (update_need fid) m t refl refl
          (λ s. (let k : Status true ≡ Status false = ap (λ (z : Need). z.kind) s in cc))
          (λ both. none (covers_yes held (update_need fid) (and_parts (same_need (update_need fid) (update_need fid))
          (covers_it held (update_need fid)) both).1))
      status_too false t kept m none = absurd (never_lost now fid kept m.0)

unfoldable pub sees_dir : Option Nature → Bool
sees_dir (Some nature) = nature.dir
sees_dir None = false

pub not_dir : (past : List Step) (s : Step) (held : List Token) (fid : Fid) → same_fid fid (root_of fid.fileset) ≡ false
    → sees_dir (sees past s fid Traits) ≡ false → IsDirectory past s held fid → ⊥
unfolding sees_dir
not_dir past s held fid a b (inl root) = let p = fids fid (root_of fid.fileset) root in cc
not_dir past s held fid a b (inr (cov, (nature, seen, dir))) =
    let p : nature.dir ≡ false = subst (λ o. sees_dir o ≡ false) seen b in cc

unfoldable pub fetch_right : List Step → List Token → List Need → Fid → List Need → Bool
fetch_right now held needs fid asked =
    (covers_it held (status_need fid) && (is_quiet now fid && file_right held needs fid asked))
    || (lacks_it held (status_need fid) && same_list same_need asked (status_need fid ∷ []))

pub fetch_is : (past : List Step) (s : Step) (held : List Token) (needs : List Need) (fid : Fid) (asked : List Need)
    → (IsDirectory past s held fid → ⊥) → fetch_right (s ∷ past) held needs fid asked ≡ true
    → FetchNeeds past s held needs fid asked
unfolding fetch_right
fetch_is past s held needs fid asked none e =
    let a = covers_it held (status_need fid) in
    let b = lacks_it held (status_need fid) in
    let quiet = is_quiet (s ∷ past) fid in
    elim (or_cases (a && (quiet && file_right held needs fid asked)) (b && same_list same_need asked (status_need fid ∷ [])) e) [
      | inl x ↦ (
          let p = and_parts a (quiet && file_right held needs fid asked) x in
          let q = and_parts quiet (file_right held needs fid asked) p.1 in
          OfFile none (covers_yes held (status_need fid) p.0) (file_is (s ∷ past) held needs fid asked q.0 q.1)
          )
      | inr x ↦ (
          let p = and_parts b (same_list same_need asked (status_need fid ∷ [])) x in
          OfUnknown none (lacks_is held (status_need fid) p.0)
          (list_is same_need need_is asked (status_need fid ∷ []) p.1)
          )
    ]

-- the numbers of Fetches
unfoldable pub is_below : FetchOf → Body → Bool
is_below f (Fetch g) = implies (same_fileset g.fid.fileset f.fid.fileset) (nat_lt g.number f.number)
is_below f _ = true

unfoldable pub is_before : FetchOf → Body → Bool
is_before f (Fetch g) = same_fileset g.fid.fileset f.fid.fileset && (suc g.number == f.number)
is_before f _ = false

before_is : (f : FetchOf) (b : Body) → is_before f b ≡ true
    → (g : FetchOf) × (b ≡ Fetch g) × (g.fid.fileset ≡ f.fid.fileset) × (suc g.number ≡ f.number)
unfolding is_before
before_is f (Fetch g) e =
    let p = and_parts (same_fileset g.fid.fileset f.fid.fileset) (suc g.number == f.number) e in
    (g, refl, fileset_is g.fid.fileset f.fid.fileset p.0, eqb-true (suc g.number) f.number p.1)
before_is f b e = absurd (cc)

unfoldable pub next_tests : List Step → FetchOf → List Bool
next_tests past f =
    list_all (λ k. is_below f k.body) (said past)
    ∷ ((f.number == 1) || list_any (λ k. is_before f k.body) (said past))
    ∷ []

pub next_is : (past : List Step) (f : FetchOf) → passes (next_tests past f) ≡ true
    → IsNextNumber (IsFetchNumber past f.fid.fileset) f.number
unfolding next_tests is_below
next_is past f e =
    let t = all_true (next_tests past f) e in
    record {
      above = λ m (g, (v, d, n, x), files, number).
          let p = at_said (λ k. is_below f k.body) past v d n (Fetch g) t.0 x in
          let q = so (same_fileset g.fid.fileset f.fid.fileset) (nat_lt g.number f.number) p.1
          (filesets g.fid.fileset f.fid.fileset files) in
          subst (λ k. k < f.number) number (ltb-true g.number f.number q);
      after = elim (or_cases (f.number == 1) (list_any (λ k. is_before f k.body) (said past)) t.1.0) [
        | inl x ↦ inl (eqb-true f.number 1 x)
        | inr x ↦ (
            let k = some_in (λ (k : Message). is_before f k.body) (said past) x in
            let g = before_is f k.0.body k.2 in
            inr (
              g.0.number,
              (
                g.0,
                (
                  k.0.server,
                  k.0.epoch,
                  k.0.moves,
                  subst (λ b. Said past k.0.server k.0.epoch k.0.moves b) g.1 (in_said past k.0 k.1),
                ),
                g.2,
                refl,
              ),
              g.3,
            )
            )
      ];
    }

pub not_true : (b : Bool) → not b ≡ true → b ≡ false
not_true true e = absurd (cc)
not_true false e = refl
