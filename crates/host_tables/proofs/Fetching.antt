-- A step in which the open call asks for tokens.
use Rattle.std.proofs.Common.{[]}
use Rattle.std.proofs.Common.{None}
use Rattle.base_types.specs.Ids.{same_fid}
use Rattle.host_dirty.specs.Dirtiness.{is_dirty as is_dirty_in}
use Rattle.host_tables.specs.Asking.{AsksStatusOf, FileFrom, InDirtyBlockOf}
use Rattle.run_rules.specs.HostAsks.{AsksStatus, FileNeeds, InDirtyBlock}
use Rattle.run_rules.specs.HostMay.{HostMay}
use Rattle.run_rules.specs.Views.{byte_of, gives_at, is_dirty, writes_byte}
use Rattle.run_rules.specs.declared.applied.Answer.{Answer as AnswerOf}
use Rattle.std.specs.List.{list_any}
use Rattle.std.specs.Option.{option_map_or}
use Rattle.std.proofs.Common.{Bool, Option, false, true, is_some, not, ◌&&◌, ◌||◌}
use Rattle.base_types.specs.declared.ids.Fid.{Fid}
use Rattle.base_types.specs.declared.ids.FilesetId.{FilesetId}
use Rattle.base_types.specs.declared.ids.ServerId.{ServerId}
use Rattle.host_gives.specs.Giving.{is_of_file}
use Rattle.host_tables.proofs.Assembling.{may_assembled}
use Rattle.host_tables.proofs.Lists.{any_false, none_in}
use Rattle.host_tables.proofs.Plain.{plain_needs_alike}
use Rattle.host_tables.specs.Asking.{AsksFetch, FetchFrom, FetchesMay}
use Rattle.host_tables.specs.Asking.FetchFrom.{OfKnown, OfNone, OfPlain, OfRoot}
use Rattle.host_tables.specs.Causes.{CauseMay}
use Rattle.host_tables.specs.Half.{half}
use Rattle.host_tables.specs.Plain.{IsOfFile}
use Rattle.host_tables.specs.Sending.{MaySay, MaySend, Moderate}
use Rattle.host_tables.specs.Stands.{IsLack, Stands, look_from, needs_from}
use Rattle.host_tables.specs.Tables.{content, held_of, last_fetch, own_of, site_at}
use Rattle.host_tables.specs.declared.tables.Tables.{Tables}
use Rattle.message_types.specs.declared.asking.Fetch.{Fetch as FetchOf}
use Rattle.message_types.specs.declared.giving.Give.{Give}
use Rattle.message_types.specs.declared.message.Body.{Body}
use Rattle.message_types.specs.declared.message.Body.TheVariants.{Change, Fetch, Returned}
use Rattle.message_types.specs.declared.message.Direction.TheVariants.{ToServer}
use Rattle.message_types.specs.declared.message.Message.{Message}
use Rattle.need_host.proofs.Looking.{lacks_are_first}
use Rattle.need_host.specs.Looks.{needs_of}
use Rattle.run_rules.specs.HostAsks.{FetchNeeds, IsFetchNumber, IsNewFetch, IsNextNumber}
use Rattle.run_rules.specs.HostAsks.FetchNeeds.{OfDirectory, OfFile, OfUnknown}
use Rattle.run_rules.specs.Messages.{Asking, Changing, Sends}
use Rattle.run_rules.specs.Past.{In}
use Rattle.run_rules.specs.Tokens.{Drops, GiveOpen, Held as HeldBy, LeavesHost, Made}
use Rattle.run_rules.specs.Views.{Stance, needs_in, sees}
use Rattle.run_rules.specs.declared.step.Asked.{Asked}
use Rattle.run_rules.specs.declared.step.Step.{Step}
use Rattle.script_lines.specs.declared.script.Script.{Script}
use Rattle.std.proofs.Common.{List, Some, ap, arith, false, inl, inr, refl, subst, sym, true, ℕ, ◌∙◌, ◌∷◌, ◌≡◌}
use Rattle.token_types.specs.Covers.{Covers}
use Rattle.token_types.specs.declared.token.Kind.TheVariants.{Status}
use Rattle.token_types.specs.declared.token.Need.{Need}
use Rattle.token_types.specs.declared.token.Token.{Token}
use Rattle.token_types.specs.declared.token.TokenId.{TokenId}
use Rattle.tree_laws.specs.Parts.{Nature}
use Rattle.tree_laws.specs.Parts.Part.{Traits}
use Rattle.host_tables.proofs.Answered as answered
use Rattle.host_tables.proofs.Standing as standing
use Rattle.host_tables.proofs.Unanswered as unanswered

-- a step that writes nothing and makes no give-back leaves dirty what was
undirtied : (past : List Step) (s : Step) → s.wrote ≡ None → s.made ≡ [] → (fid : Fid) (at : ℕ)
    → is_dirty (s ∷ past) fid at ≡ is_dirty past fid at
undirtied past s wrote made fid at =
    ap (λ (b : Bool). ((b && list_any (λ (a : AnswerOf). writes_byte a.call at) s.answers) || is_dirty past fid at)
    && not (gives_at s fid at))
    (ap (λ (o : Option Fid). option_map_or (λ (file : Fid). same_fid file fid) o false) wrote)
    ∙ (ap (λ (l : List Give). is_dirty past fid at
    && not (list_any (λ (give : Give). same_fid give.fid fid && is_some (byte_of give.pieces at)) l)) made
    ∙ and_true (is_dirty past fid at))
  where
    and_true : (b : Bool) → (b && true) ≡ b
    and_true true = refl
    and_true false = refl

module _ (script : Script) (m : Tables) (past : List Step) (s : Step) (learnt : Stands script m (half s ∷ past))
    (c : Asked) (v : ServerId) (n : ℕ) (f : FetchOf) (so : AsksFetch m past s c v n f)
    (cause : CauseMay script m.host past s) where
  none_dropped : (t : Token) → Drops s t → ⊥
  none_dropped t d = none_in s.dropped so.dropped d.0 d.1

  keeps : (t : Token) → In t (held_of m) → HeldBy (s ∷ past) t
  keeps t i = (standing.hand_of script m past s learnt t i, none_dropped t)

  cached : (t : Token) → HeldBy (s ∷ past) t → In t (held_of m)
  cached t h = standing.of_hand script m past s learnt t h.0

  abbrev its : Stance script.roster m.host past s
  its = standing.stance script m past s learnt (held_of m) keeps cached

  abbrev message : Message
  message = record {
    direction = ToServer;
    host = m.host;
    server = v;
    epoch = (site_at m.sites v).epoch;
    moves = n;
    body = Fetch f;
  }

  is : (x : Message) → In x s.sent → message ≡ x
  is x i = elim (subst (In x) so.sent i) [ inl e ↦ sym e | inr e ↦ elim e [ ] ]

  sends_it : Sends s v (site_at m.sites v).epoch n (Fetch f)
  sends_it = (message, subst (In message) (sym so.sent) (inl refl), refl, refl, refl, refl)

  body_is : (w : ServerId) (e k : ℕ) (b : Body) → Sends s w e k b → Fetch f ≡ b
  body_is w e k b p = ap (λ (x : Message). x.body) (is p.0 p.1) ∙ p.5

  none_made : (g : Give) → In g s.made → ⊥
  none_made g i = none_in s.made so.made g i

  made_before : (g : Give) → Made (s ∷ past) g → Made past g
  made_before g (inl i) = absurd (none_made g i)
  made_before g (inr i) = i

  no_leaves : (i : TokenId) → LeavesHost s i → ⊥
  no_leaves i (inl x) = none_made x.0 x.1
  no_leaves i (inr r) = let p = body_is r.0 r.1 r.2 (Returned r.3) r.4 in absurd (cc)

  -- nothing else is outstanding
  asking_is : (fs : FilesetId) (k : ℕ) → Asking (s ∷ past) fs k → (f.fid.fileset ≡ fs) × (f.number ≡ k)
  asking_is fs k (inl (g, p, at, number), _) =
      let e = body_is p.0 p.1 p.2 (Fetch g) p.3 in
      let q : f ≡ g = cc in
      (ap (λ (x : FetchOf). x.fid.fileset) q ∙ at, ap (λ (x : FetchOf). x.number) q ∙ number)
  asking_is fs k (inr a, ended) =
      let r = learnt.request.asking fs k (inr a, ended) in absurd (let p = sym so.idle ∙ r.1 in cc)

  not_changing : (w : ServerId) (fs : FilesetId) (k : ℕ) → Changing (s ∷ past) w fs k → ⊥
  not_changing w fs k (inl (d, p, _, _), _) = let e = body_is p.0 p.1 p.2 (Change d) p.3 in absurd (cc)
  not_changing w fs k (inr a, ended) =
      let r = learnt.request.changing w fs k (inr a, ended) in absurd (let p = sym so.idle ∙ r.2 in cc)

  asking : Asking (s ∷ past) f.fid.fileset f.number
  asking = (
    inl (f, (v, (site_at m.sites v).epoch, n, sends_it), refl, refl),
    λ g about _ number.
        so.fresh g about number,
  )

  -- its number is the next
  numbered_before : (k : ℕ) → IsFetchNumber past f.fid.fileset k → IsFetchNumber (half s ∷ past) f.fid.fileset k
  numbered_before k x = (x.0, (x.1.0, x.1.1, x.1.2, inr x.1.3), x.2, x.3)

  numbered_after : (k : ℕ) → IsFetchNumber (half s ∷ past) f.fid.fileset k → IsFetchNumber past f.fid.fileset k
  numbered_after k x = (x.0, (x.1.0, x.1.1, x.1.2, elim x.1.3 [ inl p ↦ elim p.1 [ ] | inr p ↦ p ]), x.2, x.3)

  next : IsNextNumber (IsFetchNumber past f.fid.fileset) f.number
  next = record {
    above = λ k x. let e = so.number in let l = learnt.numbers.fetches f.fid.fileset k (numbered_before k x) in
        omega (arith, e, l);
    after = elim (learnt.numbers.fetch_last f.fid.fileset) [
      | inl z ↦ (let e = so.number in inl (omega (arith, e, z)))
      | inr x ↦ (let e = so.number in inr (
        last_fetch m.fetched f.fid.fileset,
        numbered_after (last_fetch m.fetched f.fid.fileset) x,
        omega (arith, e),
      ))
    ];
  }

  no_give : GiveOpen (s ∷ past) f.fid → ⊥
  no_give (g, made, at, unknown) =
      elim (learnt.gives.all g (inr (made_before g made))) [
        | inl k ↦ unknown k
        | inr x ↦ any_false (is_of_file f.fid) m.gives.gives so.no_give x.0 x.1
            (standing.of_file script m past s learnt f.fid x.0 g x.2 at)
      ]

  -- the status is shown where it is covered
  traits_seen : Covers (held_of m) (record { fid = f.fid; kind = Status false }) → content m.cache f.fid Traits
      ≡ sees past s f.fid Traits
  traits_seen covers = answered.agree script m past s learnt f.fid Traits covers

  -- what a file lacks is what it lacks on the host's view
  alike : Covers (held_of m) (record { fid = f.fid; kind = Status false })
      → ((nature : Nature) → content m.cache f.fid Traits ≡ Some nature → nature.dir ≡ true → ⊥)
      → needs_from m c.call ≡ needs_of (sees past s) (look_from m c.call)
  alike covers plain = plain_needs_alike (held_of m) (content m.cache) (sees past s)
      (answered.agree script m past s learnt) (own_of m) m.host m.user c.call of_file
    where
      of_file : (need : Need) → IsLack m c.call need → IsOfFile (held_of m) (content m.cache) need
      of_file need l =
          let same : so.need ≡ need = (lacks_are_first (held_of m) (needs_from m c.call)).one so.need need so.lack l in
          let at : f.fid ≡ need.fid = sym so.file ∙ ap (λ (x : Need). x.fid) same in (
            subst (λ (x : Fid). Covers (held_of m) (record { fid = x; kind = Status false })) at covers,
            λ d. plain d.0 (ap (λ (x : Fid). content m.cache x Traits) at ∙ d.1) d.2,
          )

  -- nothing is written or given back
  dirty_is : (fid : Fid) (at : ℕ) → is_dirty_in m.dirty fid at ≡ is_dirty (s ∷ past) fid at
  dirty_is fid at =
      learnt.dirty.bytes fid at ∙ (standing.dirty_is script m past s learnt fid at
      ∙ sym (undirtied past s so.none.wrote so.made fid at))

  block_there : (fid : Fid) (at : ℕ) → InDirtyBlockOf m.dirty fid at → InDirtyBlock (s ∷ past) fid at
  block_there fid at (other, same, d) = (other, same, sym (dirty_is fid other) ∙ d)

  block_here : (fid : Fid) (at : ℕ) → InDirtyBlock (s ∷ past) fid at → InDirtyBlockOf m.dirty fid at
  block_here fid at (other, same, d) = (other, same, dirty_is fid other ∙ d)

  status_there : (needs : List Need) (fid : Fid) (update : Bool) → AsksStatusOf so.lost needs fid update
      → AsksStatus (s ∷ past) needs fid update
  status_there needs fid true a = a
  status_there needs fid false a = ((so.lost_is fid).0 a.0, a.1)

  status_here : (needs : List Need) (fid : Fid) (update : Bool) → AsksStatus (s ∷ past) needs fid update
      → AsksStatusOf so.lost needs fid update
  status_here needs fid true a = a
  status_here needs fid false a = ((so.lost_is fid).1 a.0, a.1)

  file_needs : (needs asked : List Need) (fid : Fid) → FileFrom m so.lost needs fid asked
      → FileNeeds (s ∷ past) (held_of m) needs fid asked
  file_needs needs asked fid from = record {
    only = from.only;
    bytes = λ u at n. let x = from.bytes u at n in (x.0, λ b. x.1 (block_here fid at b));
    bytes_all = λ u at n clear. from.bytes_all u at n (λ b. clear (block_there fid at b));
    status = λ u i. let x = from.status u i in (status_there needs fid u x.0, x.1);
    status_all = λ u a none. from.status_all u (status_here needs fid u a) none;
  }

  fetch_needs : FetchFrom m so.lost c.call f.fid f.needs → FetchNeeds past s (held_of m) (needs_in its c.call) f.fid
      f.needs
  fetch_needs (OfRoot root e) = OfDirectory (inl root) e
  fetch_needs (OfKnown nature covers told dir e) =
      OfDirectory (inr (covers, (nature, sym (traits_seen covers) ∙ told, dir))) e
  fetch_needs (OfNone other lacks q) = OfUnknown (λ d. elim d [ inl e ↦ other e | inr x ↦ lacks x.0 ]) lacks q
  fetch_needs (OfPlain other covers plain lacking) =
      OfFile (λ d. elim d [ inl e ↦ other e | inr x ↦ plain x.1.0 (traits_seen x.0 ∙ x.1.1) x.1.2 ]) covers
      (subst (λ (needs : List Need). FileNeeds (s ∷ past) (held_of m) needs f.fid f.needs) (alike covers plain)
      (file_needs (needs_from m c.call) f.needs f.fid lacking))

  new : IsNewFetch script.roster m.host past s its f
  new = record {
    next = next;
    no_give = no_give;
    call = c;
    is_open = so.is_open;
    need = so.need;
    fetched = so.kind;
    file = so.file;
    first = answered.lack_there script m past s learnt c.call so.need so.lack;
    needs = fetch_needs so.needs;
  }

  says : MaySay script.roster m.host past s its v n (Fetch f)
  says = record {
    place = so.place_is;
    no_bye = so.no_bye;
    why = inr new;
    welcome = (learnt.sites v).welcome.0 so.welcome;
  }

  sends : (x : Message) → In x s.sent → MaySend script.roster m.host past s its x
  sends x i = subst (MaySend script.roster m.host past s its) (is x i) (record {
    epoch_is = (learnt.sites v).epoch;
    says = says;
  })

  moderate : Moderate script.roster m.host past s its
  moderate = record {
    live = cause.live;
    sends = sends;
    asks = λ other o. inl (f.fid.fileset, f.number, asking);
    takes = cause.takes;
    drops = λ t h l. absurd (no_leaves t.id l);
    drops_only = λ t d. absurd (none_dropped t d);
    makes = λ g i j. absurd (none_made g j);
    makes_once = λ g k i j. absurd (none_made g j);
    makes_from = λ g j. absurd (none_made g j);
    makes_apart = λ g k j. absurd (none_made g j);
    makes_new = λ g k j. absurd (none_made g j);
    one_fetch = λ fs gs k l a b. let x = asking_is fs k a in let y = asking_is gs l b in (sym x.0 ∙ y.0, sym x.1 ∙ y.1);
    one_change = λ w u fs gs k l a. absurd (not_changing w fs k a);
    one_of_both = λ w fs gs k l a b. not_changing w gs l b;
  }

  pub meets : HostMay script m.host past s
  meets = may_assembled script m.host past s its moderate cause.takes_all
      (unanswered.answers script m past s learnt (held_of m) keeps cached so.none)
      (unanswered.gives_none past s so.made (λ t o. (inr o, no_leaves t.id)) cause.new_gives)
      (record { leaves = λ l i. absurd (none_in s.dropped so.dropped l i) })
      cause.lines

pub fetches_may : FetchesMay
fetches_may script m past s learnt c v n f so cause = meets script m past s learnt c v n f so cause
