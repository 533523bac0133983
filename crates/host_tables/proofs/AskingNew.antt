-- A new Fetch may be sent in a quiet step.
use Rattle.base_types.specs.Ids.{same_fid}
use Rattle.base_types.specs.declared.ids.Fid.{Fid}
use Rattle.base_types.specs.declared.user.User.{User}
use Rattle.host_dirty.specs.Dirtiness.{is_dirty as is_dirty_in}
use Rattle.host_gives.specs.Giving.{is_of_file}
use Rattle.host_tables.proofs.Lists.{any_false, none_in}
use Rattle.host_tables.proofs.Plain.{plain_needs_alike}
use Rattle.host_tables.specs.Asking.{AsksStatusOf, FetchFrom, FileFrom, InDirtyBlockOf}
use Rattle.host_tables.specs.Asking.FetchFrom.{OfKnown, OfNone, OfPlain, OfRoot}
use Rattle.host_tables.specs.Half.{half}
use Rattle.host_tables.specs.Moving.{FetchesNew, NewFetchMay, SendsFetchNew}
use Rattle.host_tables.specs.Plain.{IsOfFile}
use Rattle.host_tables.specs.Quiet.{IsQuiet}
use Rattle.host_tables.specs.QuietStep.{IsOfTables}
use Rattle.host_tables.specs.Sending.{MayFetch}
use Rattle.host_tables.specs.Stands.{IsLack, Stands, look_from, needs_from}
use Rattle.host_tables.specs.Tables.{content, held_of, last_fetch, own_of}
use Rattle.host_tables.specs.declared.tables.Tables.{Tables}
use Rattle.message_types.specs.declared.asking.Fetch.{Fetch as FetchOf}
use Rattle.message_types.specs.declared.giving.Give.{Give}
use Rattle.need_host.proofs.Looking.{lacks_are_first}
use Rattle.need_host.specs.Calls.{Own, call_look}
use Rattle.need_host.specs.Looks.{IsFirstLack, needs_of}
use Rattle.run_rules.specs.HostAsks.{AsksStatus, FetchNeeds, FileNeeds, FirstLack, InDirtyBlock, IsFetchNumber}
use Rattle.run_rules.specs.HostAsks.{IsNextNumber}
use Rattle.run_rules.specs.HostAsks.FetchNeeds.{OfDirectory, OfFile, OfUnknown}
use Rattle.run_rules.specs.Messages.{home}
use Rattle.run_rules.specs.Tokens.{GiveOpen, Made}
use Rattle.run_rules.specs.Views.{Stance, byte_of, gives_at, is_dirty, needs_in, sees, writes_byte}
use Rattle.run_rules.specs.declared.applied.Answer.{Answer as AnswerOf}
use Rattle.run_rules.specs.declared.step.Asked.{Asked}
use Rattle.run_rules.specs.declared.step.Step.{Step}
use Rattle.script_lines.specs.declared.script.Script.{Script}
use Rattle.std.proofs.Common.{Bool, List, None, Option, Some, [], ap, arith, false, inl, inr, is_some, not, refl}
use Rattle.std.proofs.Common.{subst, sym, true, ℕ, ◌&&◌, ◌||◌, ◌∙◌, ◌∷◌, ◌≡◌}
use Rattle.std.specs.List.{list_any}
use Rattle.std.specs.Option.{option_map_or}
use Rattle.token_types.specs.Covers.{Covers}
use Rattle.token_types.specs.declared.token.Kind.TheVariants.{Status}
use Rattle.token_types.specs.declared.token.Need.{Need}
use Rattle.token_types.specs.declared.token.Token.{Token}
use Rattle.tree_laws.specs.Parts.{Nature}
use Rattle.tree_laws.specs.Parts.Part.{Traits}
use Rattle.host_tables.proofs.Answered as answered
use Rattle.host_tables.proofs.Standing as standing
use Rattle.host_tables.proofs.Unanswered as unanswered

-- a step that writes nothing and makes no give-back leaves dirty what was
undirtied : (past : List Step) (s : Step) → s.wrote ≡ None → s.made ≡ [] → (fid : Fid) (at : ℕ)
    → is_dirty (s ∷ past) fid at ≡ is_dirty past fid at
undirtied past s wrote made fid at =
    ap (λ (b : Bool). ((b && list_any (λ (a : AnswerOf). writes_byte a.call at) s.answers) || is_dirty past fid at)
    && not (gives_at s fid at))
    (ap (λ (o : Option Fid). option_map_or (λ (file : Fid). same_fid file fid) o false) wrote)
    ∙ (ap (λ (l : List Give). is_dirty past fid at
    && not (list_any (λ (give : Give). same_fid give.fid fid && is_some (byte_of give.pieces at)) l)) made
    ∙ and_true (is_dirty past fid at))
  where
    and_true : (b : Bool) → (b && true) ≡ b
    and_true true = refl
    and_true false = refl

module _ (script : Script) (m : Tables) (past : List Step) (s : Step) (learnt : Stands script m (half s ∷ past))
    (quiet : IsQuiet s) (c : Asked) (f : FetchOf) (sends : SendsFetchNew m past s f) (so : FetchesNew m past s c f)
  where
    made_before : (g : Give) → Made (s ∷ past) g → Made past g
    made_before g (inl i) = absurd (none_in s.made quiet.made g i)
    made_before g (inr i) = i

    -- its number is the next
    numbered_before : (k : ℕ) → IsFetchNumber past f.fid.fileset k → IsFetchNumber (half s ∷ past) f.fid.fileset k
    numbered_before k x = (x.0, (x.1.0, x.1.1, x.1.2, inr x.1.3), x.2, x.3)

    numbered_after : (k : ℕ) → IsFetchNumber (half s ∷ past) f.fid.fileset k → IsFetchNumber past f.fid.fileset k
    numbered_after k x = (x.0, (x.1.0, x.1.1, x.1.2, elim x.1.3 [ inl p ↦ elim p.1 [ ] | inr p ↦ p ]), x.2, x.3)

    next : IsNextNumber (IsFetchNumber past f.fid.fileset) f.number
    next = record {
      above = λ k x. let e = sends.number in let l = learnt.numbers.fetches f.fid.fileset k (numbered_before k x) in
          omega (arith, e, l);
      after = elim (learnt.numbers.fetch_last f.fid.fileset) [
        | inl z ↦ (let e = sends.number in inl (omega (arith, e, z)))
        | inr x ↦ (let e = sends.number in inr (
          last_fetch m.fetched f.fid.fileset,
          numbered_after (last_fetch m.fetched f.fid.fileset) x,
          omega (arith, e),
        ))
      ];
    }

    no_give : GiveOpen (s ∷ past) f.fid → ⊥
    no_give (g, made, at, unknown) =
        elim (learnt.gives.all g (inr (made_before g made))) [
          | inl k ↦ unknown k
          | inr x ↦ any_false (is_of_file f.fid) m.gives.gives so.no_give x.0 x.1
              (standing.of_file script m past s learnt f.fid x.0 g x.2 at)
        ]

    -- the status is shown where it is covered
    traits_seen : Covers (held_of m) (record { fid = f.fid; kind = Status false }) → content m.cache f.fid Traits
        ≡ sees past s f.fid Traits
    traits_seen covers = answered.agree script m past s learnt f.fid Traits covers

    -- what a file lacks is what it lacks on the host's view
    alike : Covers (held_of m) (record { fid = f.fid; kind = Status false })
        → ((nature : Nature) → content m.cache f.fid Traits ≡ Some nature → nature.dir ≡ true → ⊥)
        → needs_from m c.call ≡ needs_of (sees past s) (look_from m c.call)
    alike covers plain = plain_needs_alike (held_of m) (content m.cache) (sees past s)
        (answered.agree script m past s learnt) (own_of m) m.host m.user c.call of_file
      where
        of_file : (need : Need) → IsLack m c.call need → IsOfFile (held_of m) (content m.cache) need
        of_file need l =
            let same : so.need ≡ need = (lacks_are_first (held_of m) (needs_from m c.call)).one so.need need
            so.lack l in
            let at : f.fid ≡ need.fid = sym so.file ∙ ap (λ (x : Need). x.fid) same in (
              subst (λ (x : Fid). Covers (held_of m) (record { fid = x; kind = Status false })) at covers,
              λ d. plain d.0 (ap (λ (x : Fid). content m.cache x Traits) at ∙ d.1) d.2,
            )

    -- nothing is written or given back
    dirty_is : (fid : Fid) (at : ℕ) → is_dirty_in m.dirty fid at ≡ is_dirty (s ∷ past) fid at
    dirty_is fid at =
        learnt.dirty.bytes fid at ∙ (standing.dirty_is script m past s learnt fid at
        ∙ sym (undirtied past s quiet.wrote quiet.made fid at))

    block_there : (fid : Fid) (at : ℕ) → InDirtyBlockOf m.dirty fid at → InDirtyBlock (s ∷ past) fid at
    block_there fid at (other, same, d) = (other, same, sym (dirty_is fid other) ∙ d)

    block_here : (fid : Fid) (at : ℕ) → InDirtyBlock (s ∷ past) fid at → InDirtyBlockOf m.dirty fid at
    block_here fid at (other, same, d) = (other, same, dirty_is fid other ∙ d)

    status_there : (needs : List Need) (fid : Fid) (update : Bool) → AsksStatusOf so.lost needs fid update
        → AsksStatus (s ∷ past) needs fid update
    status_there needs fid true a = a
    status_there needs fid false a = ((so.lost_is fid).0 a.0, a.1)

    status_here : (needs : List Need) (fid : Fid) (update : Bool) → AsksStatus (s ∷ past) needs fid update
        → AsksStatusOf so.lost needs fid update
    status_here needs fid true a = a
    status_here needs fid false a = ((so.lost_is fid).1 a.0, a.1)

    file_needs : (needs asked : List Need) (fid : Fid) → FileFrom m so.lost needs fid asked
        → FileNeeds (s ∷ past) (held_of m) needs fid asked
    file_needs needs asked fid from = record {
      only = from.only;
      bytes = λ u at n. let x = from.bytes u at n in (x.0, λ b. x.1 (block_here fid at b));
      bytes_all = λ u at n clear. from.bytes_all u at n (λ b. clear (block_there fid at b));
      status = λ u i. let x = from.status u i in (status_there needs fid u x.0, x.1);
      status_all = λ u a none. from.status_all u (status_here needs fid u a) none;
    }

    fetch_needs : FetchFrom m so.lost c.call f.fid f.needs → FetchNeeds past s (held_of m)
        (needs_of (sees past s) (look_from m c.call)) f.fid
        f.needs
    fetch_needs (OfRoot root e) = OfDirectory (inl root) e
    fetch_needs (OfKnown nature covers told dir e) =
        OfDirectory (inr (covers, (nature, sym (traits_seen covers) ∙ told, dir))) e
    fetch_needs (OfNone other lacks q) = OfUnknown (λ d. elim d [ inl e ↦ other e | inr x ↦ lacks x.0 ]) lacks q
    fetch_needs (OfPlain other covers plain lacking) =
        OfFile (λ d. elim d [ inl e ↦ other e | inr x ↦ plain x.1.0 (traits_seen x.0 ∙ x.1.1) x.1.2 ]) covers
        (subst (λ (needs : List Need). FileNeeds (s ∷ past) (held_of m) needs f.fid f.needs) (alike covers plain)
        (file_needs (needs_from m c.call) f.needs f.fid lacking))

    module _ (stance : Stance script.roster m.host past s) (from : IsOfTables script.roster m past s stance) where
      needs_there : FetchNeeds past s stance.kept (needs_in stance c.call) f.fid f.needs
      needs_there =
          subst (λ (q : List Token × Own × User). FetchNeeds past s q.0
          (needs_of (sees past s) (call_look q.1 m.host q.2 c.call)) f.fid f.needs)
          (λ i. (sym from.kept i, sym from.own i, sym from.user i)) (fetch_needs so.needs)

      lack_there : FirstLack script.roster m.host past s stance c.call so.need
      lack_there =
          subst (λ (q : List Token × Own × User). IsFirstLack q.0
          (needs_of (sees past s) (call_look q.1 m.host q.2 c.call)) so.need)
          (λ i. (sym from.kept i, sym from.own i, sym from.user i))
          (answered.lack_there script m past s learnt c.call so.need so.lack)

      pub new_fetch : MayFetch script.roster m.host past s stance (home f.fid.fileset) 0 f
      new_fetch = record {
        place = refl;
        no_bye = so.no_bye;
        why = inr (record {
          next = next;
          no_give = no_give;
          call = c;
          is_open = so.is_open;
          need = so.need;
          fetched = so.kind;
          file = so.file;
          first = lack_there;
          needs = needs_there;
        });
        welcome = (learnt.sites (home f.fid.fileset)).welcome.0 sends.welcome;
      }

pub new_fetch_may : NewFetchMay
new_fetch_may script m past s c f learnt quiet sends so stance from =
    new_fetch script m past s learnt quiet c f sends so stance from
