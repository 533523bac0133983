-- What the open call lacks or asks in the step of a Revoke, once tokens have left: as the rules say it.
use Rattle.host_tables.proofs.Lists.{in_map, map_in}
use Rattle.std.proofs.Common.{◌&&◌, ◌++◌, ◌||◌, ◌↔◌, ◌∙◌, ◌∷◌, ◌≡◌}
use Rattle.token_types.specs.Conflicts.{need_of}
use Rattle.base_types.specs.Ids.{same_fid}
use Rattle.base_types.specs.declared.ids.Fid.{Fid}
use Rattle.base_types.specs.declared.ids.ServerId.{ServerId}
use Rattle.base_types.specs.declared.user.User.{User}
use Rattle.host_cache.specs.Holding.{tokens_of}
use Rattle.host_gives.specs.Giving.{is_of_file}
use Rattle.host_tables.proofs.Lists.{any_false, any_in, in_any}
use Rattle.host_tables.specs.Asking.{AsksStatusOf, FetchFrom, FileFrom, InDirtyBlockOf}
use Rattle.host_tables.specs.Giving.{GivesBack}
use Rattle.host_tables.specs.Half.{half}
use Rattle.host_tables.specs.Letting.{Keeping}
use Rattle.host_tables.specs.Moving.{SendsChangeNew, SendsFetchNew}
use Rattle.host_tables.specs.Plain.{IsOfFile}
use Rattle.host_tables.specs.Sending.{MayChange, MayFetch}
use Rattle.host_tables.specs.Stands.{AsksFrom, GivesStand, IsCoveredFrom, IsLack, look_from, needs_from, verdict_from}
use Rattle.host_tables.specs.Tables.{content, held_of, is_shown_by, labelled, last_change, last_fetch, locks_under}
use Rattle.host_tables.specs.Tables.{ones, opens_under, own_of}
use Rattle.host_tables.specs.declared.tables.Tables.{Tables}
use Rattle.message_types.specs.declared.message.Body.TheVariants.{Bye}
use Rattle.need_host.proofs.Looking.{covered_alike, lack_alike, lacks_are_first, outcome_alike}
use Rattle.need_host.proofs.Showing.{shown_agree}
use Rattle.need_host.specs.Laws.{AgreeUnder}
use Rattle.need_host.specs.Looks.{CoverAll, IsCovered, IsFirstLack, View, needs_of, outcome}
use Rattle.need_host.specs.Questions.{Question, numbered_under}
use Rattle.need_host.specs.Shows.{shows}
use Rattle.run_rules.specs.Messages.{HasSaid, home}
use Rattle.run_rules.specs.Past.{In}
use Rattle.run_rules.specs.Tokens.{GiveOpen, IsUseKind}
use Rattle.run_rules.specs.Views.{Stance, gives_at, look_of, needs_in, sees, verdict_in, writes_byte}
use Rattle.run_rules.specs.declared.step.Asked.{Asked}
use Rattle.run_rules.specs.declared.step.Step.{Step}
use Rattle.script_lines.specs.declared.script.Script.{Script}
use Rattle.std.proofs.Common.{Bool, List, None, Option, Some, ap, arith, false, flat_map, inl, inr, map, not, refl}
use Rattle.std.proofs.Common.{subst, sym, true, ℕ, ◌&&◌, ◌++◌, ◌||◌, ◌↔◌, ◌∙◌, ◌∷◌, ◌≡◌}
use Rattle.std.specs.List.{list_any}
use Rattle.std.specs.Option.{option_map_or}
use Rattle.token_types.specs.Covers.{Covers}
use Rattle.token_types.specs.declared.token.Need.{Need}
use Rattle.token_types.specs.declared.token.Token.{Token}
use Rattle.tree_calls.specs.declared.call.Call.{Call}
use Rattle.tree_laws.specs.Parts.{Nature, Part}
use Rattle.tree_laws.specs.Parts.Part.{Traits}
use Rattle.host_manager.proofs.Alike.{AsksAlike, call_alike}
use Rattle.host_tables.proofs.Plain.{plain_needs_alike}
use Rattle.host_tables.proofs.Standing as standing
use Rattle.host_tables.proofs.LeavingWhole as leaving_of
use Rattle.host_dirty.specs.Dirtiness.{is_dirty as is_dirty_in}
use Rattle.host_tables.specs.Asking.FetchFrom.{OfKnown, OfNone, OfPlain, OfRoot}
use Rattle.run_rules.specs.HostAsks.FetchNeeds.{OfDirectory, OfFile, OfUnknown}
use Rattle.token_types.specs.declared.token.Kind.TheVariants.{Status}
use Rattle.message_types.specs.declared.asking.Fetch.{Fetch as FetchOf}
use Rattle.message_types.specs.declared.asking.Change.{Change as ChangeOf}
use Rattle.run_rules.specs.declared.applied.Answer.{Answer as AnswerOf}
use Rattle.need_host.specs.Calls.Verdict.{Asks}
use Rattle.need_host.specs.Questions.Question.{ChangeAt, ChangeIn, EnterAt}
use Rattle.host_tables.proofs.Moving.{changed_half, half_changed}
use Rattle.run_rules.specs.Views.{is_dirty, is_entering, stay_asked}
use Rattle.run_rules.specs.HostAsks.{AsksServer, AsksStatus, FetchNeeds, FileNeeds, FirstLack, HasLost, InDirtyBlock}
use Rattle.run_rules.specs.HostAsks.{IsChangeNumber, IsFetchNumber, IsNextNumber}
use Rattle.host_tables.specs.LeavingSteps.{LeavesRight, Left, with_left}
use Rattle.run_rules.specs.Tokens.{IsOpen}
use Rattle.need_host.specs.Calls.{Own, call_look}
use Rattle.host_tables.specs.Stands.{Stands}

module _ (script : Script) (m : Tables) (l : Left) (past : List Step) (s : Step)
    (learnt : Stands script m (half s ∷ past))
    (leaves : LeavesRight m l past s) (keeping : Keeping m past s (tokens_of l.cache.held))
    (gives : GivesBack m past s (tokens_of l.cache.held)) (wrote : s.wrote ≡ None)
    (labels_same : l.uses.labels ≡ m.uses.labels) (ending_same : l.ending ≡ m.ending) (lost : List Fid) (call : Call)
    (loses : (fid : Fid) → In fid lost ↔ HasLost (s ∷ past) fid) where
  -- the tables afterwards, whatever is known of servers and asked then
  abbrev pub n : Tables
  n = record (with_left m l) { lost = lost }

  abbrev kept : List Token
  kept = tokens_of l.cache.held

  shown_still : (fid : Fid) (part : Part) → is_shown_by kept fid part ≡ true → is_shown_by (held_of m) fid part ≡ true
  shown_still fid part e =
      let r = in_any (λ (k : Need). same_fid k.fid fid && shows k.kind part) (map need_of kept) e in
      let x = in_map need_of kept r.0 r.1 in
      any_in (λ (k : Need). same_fid k.fid fid && shows k.kind part) (map need_of (held_of m)) (need_of x.0)
      (map_in need_of (held_of m) x.0 (keeping.were x.0 x.1))
      (ap (λ (k : Need). same_fid k.fid fid && shows k.kind part) (sym x.2) ∙ r.2)

  -- under the tokens that are left the cache shows what the host sees
  agree : AgreeUnder kept (content l.cache) (sees past s)
  agree = shown_agree kept (content l.cache) (sees past s)
      (λ fid part e. leaves.content_is fid part e ∙ learnt.contents.agrees fid part (shown_still fid part e))
      (λ fid at far. leaves.beyond fid at far ∙ learnt.contents.beyond fid at far)

  -- what a call needs and asks is as before
  alike : (view : View) → AsksAlike view (look_from n call) (look_from m call)
  alike view = call_alike view (own_of n) (own_of m)
      (λ i. flat_map (λ u. locks_under m.host u.token.kind u) (map labelled (labels_same i) ++ ones (ending_same i)))
      (λ i. flat_map (λ u. opens_under m.host u.token.kind u) (map labelled (labels_same i) ++ ones (ending_same i)))
      (λ server name. refl) m.host m.user call

  needs_seen : needs_of (sees past s) (look_from n call) ≡ needs_of (sees past s) (look_from m call)
  needs_seen = (alike (sees past s)).needs

  pub after : GivesStand l.gives (s ∷ past)
  after = leaving_of.gives_after script m l past s learnt leaves gives

  dirty_is : (fid : Fid) (at : ℕ) → is_dirty_in l.dirty fid at ≡ is_dirty (s ∷ past) fid at
  dirty_is fid at =
      leaves.dirty fid at
      ∙ ap (λ (b : Bool). b && not (gives_at s fid at))
      (learnt.dirty.bytes fid at ∙ standing.dirty_is script m past s learnt fid at)
      ∙ ap (λ (o : Option Fid). ((option_map_or (λ (file : Fid). same_fid file fid) o false
      && list_any (λ (a : AnswerOf). writes_byte a.call at) s.answers) || is_dirty past fid at)
      && not (gives_at s fid at)) (sym wrote)

  -- # By the host's stance
  module _ (stance : Stance script.roster m.host past s) (kept_is : stance.kept ≡ kept) (own_is : stance.own ≡ own_of m)
      (user_is : stance.user ≡ m.user) where
    in_stance : (P : List Token → Own → User → Type 0) → P kept (own_of m) m.user → P stance.kept stance.own stance.user
    in_stance P p = subst (λ (q : List Token × Own × User). P q.0 q.1 q.2)
        (λ i. (sym kept_is i, sym own_is i, sym user_is i)) p

    pub lack_there : (need : Need) → IsLack n call need → FirstLack script.roster m.host past s stance call need
    lack_there need lack = in_stance
        (λ held own user. IsFirstLack held (needs_of (sees past s) (call_look own m.host user call)) need)
        (subst (λ (ns : List Need). IsFirstLack kept ns need) needs_seen
        (lack_alike kept (content l.cache) (sees past s) agree (look_from n call) need lack))

    covered_there : IsCoveredFrom n call → IsCovered stance.kept (sees past s) (look_of stance call)
    covered_there covered = in_stance
        (λ held own user. IsCovered held (sees past s) (call_look own m.host user call))
        (subst (CoverAll kept) needs_seen
        (covered_alike kept (content l.cache) (sees past s) agree (look_from n call) covered))

    asks_seen : (question : Question) → verdict_from n call ≡ Asks question → IsCoveredFrom n call
        → verdict_in stance call ≡ Asks question
    asks_seen question verdict covered = in_stance
        (λ held own user. outcome (sees past s) (call_look own m.host user call) ≡ Asks question)
        ((alike (sees past s)).asks question
        (sym (outcome_alike kept (content l.cache) (sees past s) agree (look_from n call) covered) ∙ verdict))

    pub asks_there : (question : Question) (fid : Fid) → AsksFrom n call question fid
        → AsksServer script.roster m.host past s stance call question fid
    asks_there question fid (inl (v, covered, f)) = inl (asks_seen question v covered, covered_there covered, f)
    asks_there question fid (inr (need, lack, kind, f, q)) = inr (need, lack_there need lack, kind, f, q)

    -- # A Fetch
    module _ (c : Asked) (call_is : c.call ≡ call) (is_open : IsOpen (s ∷ past) c) (f : FetchOf)
        (sends : SendsFetchNew m past s f) (need : Need) (lack : IsLack n call need) (kind : IsUseKind need.kind → ⊥)
        (file : need.fid ≡ f.fid) (no_give : list_any (is_of_file f.fid) l.gives.gives ≡ false)
        (no_bye : (w : ServerId) → HasSaid past w Bye → ⊥) (needs : FetchFrom n lost call f.fid f.needs) where
      numbered_before : (k : ℕ) → IsFetchNumber past f.fid.fileset k → IsFetchNumber (half s ∷ past) f.fid.fileset k
      numbered_before k x = (x.0, (x.1.0, x.1.1, x.1.2, inr x.1.3), x.2, x.3)

      numbered_after : (k : ℕ) → IsFetchNumber (half s ∷ past) f.fid.fileset k → IsFetchNumber past f.fid.fileset k
      numbered_after k x = (x.0, (x.1.0, x.1.1, x.1.2, elim x.1.3 [ inl p ↦ elim p.1 [ ] | inr p ↦ p ]), x.2, x.3)

      next : IsNextNumber (IsFetchNumber past f.fid.fileset) f.number
      next = record {
        above = λ k x. let e = sends.number in let b = learnt.numbers.fetches f.fid.fileset k (numbered_before k x) in
            omega (arith, e, b);
        after = elim (learnt.numbers.fetch_last f.fid.fileset) [
          | inl z ↦ (let e = sends.number in inl (omega (arith, e, z)))
          | inr x ↦ (let e = sends.number in inr (
            last_fetch m.fetched f.fid.fileset,
            numbered_after (last_fetch m.fetched f.fid.fileset) x,
            omega (arith, e),
          ))
        ];
      }

      none_open : GiveOpen (s ∷ past) f.fid → ⊥
      none_open (g, made, at, unknown) = elim (after.all g made) [
        | inl k ↦ unknown k
        | inr x ↦ any_false (is_of_file f.fid) l.gives.gives no_give x.0 x.1
            (standing.of_file script m past s learnt f.fid x.0 g x.2 at)
      ]

      traits_seen : Covers kept (record { fid = f.fid; kind = Status false }) → content l.cache f.fid Traits
          ≡ sees past s f.fid Traits
      traits_seen covers = agree f.fid Traits covers

      plain_alike : Covers kept (record { fid = f.fid; kind = Status false })
          → ((nature : Nature) → content l.cache f.fid Traits ≡ Some nature → nature.dir ≡ true → ⊥)
          → needs_from n call ≡ needs_of (sees past s) (look_from m call)
      plain_alike covers plain = plain_needs_alike kept (content l.cache) (sees past s) agree (own_of n) m.host m.user
          call of_file ∙ needs_seen
        where
          of_file : (other : Need) → IsLack n call other → IsOfFile kept (content l.cache) other
          of_file other o =
              let same : need ≡ other = (lacks_are_first kept (needs_from n call)).one need other lack o in
              let at : f.fid ≡ other.fid = sym file ∙ ap (λ (x : Need). x.fid) same in (
                subst (λ (x : Fid). Covers kept (record { fid = x; kind = Status false })) at covers,
                λ d. plain d.0 (ap (λ (x : Fid). content l.cache x Traits) at ∙ d.1) d.2,
              )

      block_there : (fid : Fid) (at : ℕ) → InDirtyBlockOf l.dirty fid at → InDirtyBlock (s ∷ past) fid at
      block_there fid at (other, same, d) = (other, same, sym (dirty_is fid other) ∙ d)

      block_here : (fid : Fid) (at : ℕ) → InDirtyBlock (s ∷ past) fid at → InDirtyBlockOf l.dirty fid at
      block_here fid at (other, same, d) = (other, same, dirty_is fid other ∙ d)

      status_there : (ns : List Need) (fid : Fid) (update : Bool) → AsksStatusOf lost ns fid update
          → AsksStatus (s ∷ past) ns fid update
      status_there ns fid true a = a
      status_there ns fid false a = ((loses fid).0 a.0, a.1)

      status_here : (ns : List Need) (fid : Fid) (update : Bool) → AsksStatus (s ∷ past) ns fid update
          → AsksStatusOf lost ns fid update
      status_here ns fid true a = a
      status_here ns fid false a = ((loses fid).1 a.0, a.1)

      file_needs : (ns asked : List Need) (fid : Fid) → FileFrom n lost ns fid asked
          → FileNeeds (s ∷ past) kept ns fid asked
      file_needs ns asked fid from = record {
        only = from.only;
        bytes = λ u at k. let x = from.bytes u at k in (x.0, λ b. x.1 (block_here fid at b));
        bytes_all = λ u at k clear. from.bytes_all u at k (λ b. clear (block_there fid at b));
        status = λ u i. let x = from.status u i in (status_there ns fid u x.0, x.1);
        status_all = λ u a none. from.status_all u (status_here ns fid u a) none;
      }

      fetch_needs : FetchFrom n lost call f.fid f.needs
          → FetchNeeds past s kept (needs_of (sees past s) (look_from m call)) f.fid f.needs
      fetch_needs (OfRoot root e) = OfDirectory (inl root) e
      fetch_needs (OfKnown nature covers told dir e) =
          OfDirectory (inr (covers, (nature, sym (traits_seen covers) ∙ told, dir))) e
      fetch_needs (OfNone other lacks q) =
          OfUnknown (λ d. elim d [ inl e ↦ other e | inr x ↦ lacks x.0 ]) lacks q
      fetch_needs (OfPlain other covers plain lacking) =
          OfFile (λ d. elim d [ inl e ↦ other e | inr x ↦ plain x.1.0 (traits_seen x.0 ∙ x.1.1) x.1.2 ]) covers
          (subst (λ (ns : List Need). FileNeeds (s ∷ past) kept ns f.fid f.needs) (plain_alike covers plain)
          (file_needs (needs_from n call) f.needs f.fid lacking))

      needs_there : FetchNeeds past s stance.kept (needs_in stance call) f.fid f.needs
      needs_there = in_stance
          (λ held own user. FetchNeeds past s held (needs_of (sees past s) (call_look own m.host user call)) f.fid
          f.needs) (fetch_needs needs)

      pub new_fetch : MayFetch script.roster m.host past s stance (home f.fid.fileset) 0 f
      new_fetch = record {
        place = refl;
        no_bye = no_bye;
        why = inr (record {
          next = next;
          no_give = none_open;
          call = c;
          is_open = is_open;
          need = need;
          fetched = kind;
          file = file;
          first = subst (λ (x : Call). FirstLack script.roster m.host past s stance x need) (sym call_is)
              (lack_there need lack);
          needs = subst (λ (x : Call). FetchNeeds past s stance.kept (needs_in stance x) f.fid f.needs) (sym call_is)
              needs_there;
        });
        welcome = (learnt.sites (home f.fid.fileset)).welcome.0 sends.welcome;
      }

    -- # A Change
    module _ (v : ServerId) (d : ChangeOf) (sends : SendsChangeNew m past s v d) (call_is : d.call ≡ call)
        (is_open : IsOpen (s ∷ past) (record { k = d.k; call = d.call })) (question : Question)
        (asks : AsksFrom n call question d.fid) (enters : d.enter ≡ is_entering question)
        (numbered : d.fileset ≡ numbered_under question)
        (goes : stay_asked past question ≡ record { server = v; moves = 0 })
        (no_bye : (w : ServerId) → HasSaid past w Bye → ⊥) where
      change_before : (k : ℕ) → IsChangeNumber past v d.fileset k → IsChangeNumber (half s ∷ past) v d.fileset k
      change_before k x = (x.0, changed_half past s v x.0 x.1, x.2, x.3)

      change_after : (k : ℕ) → IsChangeNumber (half s ∷ past) v d.fileset k → IsChangeNumber past v d.fileset k
      change_after k x = (x.0, half_changed past s v x.0 x.1, x.2, x.3)

      next_c : IsNextNumber (IsChangeNumber past v d.fileset) d.number
      next_c = record {
        above = λ k x.
            let e = sends.number in
            let b = learnt.numbers.changes v d.fileset k (change_before k x) in omega (arith, e, b);
        after = elim (learnt.numbers.change_last v d.fileset) [
          | inl z ↦ (let e = sends.number in inl (omega (arith, e, z)))
          | inr x ↦ (let e = sends.number in inr (
            last_change m.changed v d.fileset,
            change_after (last_change m.changed v d.fileset) x,
            omega (arith, e),
          ))
        ];
      }

      goes_now : (q : Question) → stay_asked past q ≡ record { server = v; moves = 0 }
          → stay_asked (s ∷ past) q ≡ record { server = v; moves = 0 }
      goes_now (EnterAt w) e = e
      goes_now (ChangeIn fileset) e = e
      goes_now (ChangeAt w) e = e

      pub new_change : MayChange script.roster m.host past s stance v 0 d
      new_change = record {
        place = sends.decided;
        no_bye = no_bye;
        why = inr (record {
          next = next_c;
          is_open = is_open;
          question = question;
          asks = subst (λ (x : Call). AsksServer script.roster m.host past s stance x question d.fid) (sym call_is)
              (asks_there question d.fid asks);
          enters = enters;
          numbered = numbered;
          goes = goes_now question goes;
        });
        welcome = (learnt.sites v).welcome.0 sends.welcome;
      }
