-- What single messages make of the tables and of a step, case by case.
use Rattle.std.proofs.Common.{◌≡◌, ◌⊎◌, ◌∙◌, ℕ, List, [], ◌∷◌, ◌++◌, true, false, inl, inr, refl, sym, ap, subst}
use Rattle.std.specs.Option.{option_map_or}
use Rattle.std.specs.Prelude.{◌&&◌, not, if◌then◌else◌, Bool, Option, Some, None}
use Rattle.base_types.specs.declared.ids.HostId.{HostId}
use Rattle.tree_calls.specs.declared.part.Status.{Status}
use Rattle.store_acts.specs.Acts.{act_done}
use Rattle.store_memory.specs.Reading.{status_told}
use Rattle.store_state.specs.declared.state.HostState.TheVariants.{Ended, Live}
use Rattle.store_state.specs.declared.state.StoreState.{StoreState}
use Rattle.token_manager.specs.Managers.{Manager, after_kept, after_returned}
use Rattle.token_types.specs.declared.token.Need.{Need}
use Rattle.token_types.specs.declared.token.TokenId.{TokenId}
use Rattle.message_types.specs.declared.asking.Change.{Change as ChangeOf}
use Rattle.message_types.specs.declared.asking.Fetch.{Fetch as FetchOf}
use Rattle.message_types.specs.declared.giving.Give.{Give}
use Rattle.message_types.specs.declared.giving.Reclaim.{Reclaim as ReclaimOf}
use Rattle.message_types.specs.declared.giving.Reclaimed.{Reclaimed}
use Rattle.message_types.specs.declared.message.Body.TheVariants.{Done, Gone, Reclaimed as Welcome}
use Rattle.message_types.specs.declared.telling.Done.{Done as DoneOf}
use Rattle.message_types.specs.declared.tokens.Named.{Named}
use Rattle.run_rules.specs.Past.{In}
use Rattle.run_rules.specs.Tokens.{number_of}
use Rattle.run_rules.specs.declared.applied.Request.{Request}
use Rattle.run_rules.specs.declared.applied.Request.TheVariants.{Change as Changes, Fetch as Asks}
use Rattle.server_looks.specs.Acts.{giving, host_noted}
use Rattle.server_tables.specs.Answers.{answer_again, is_old}
use Rattle.server_tables.specs.Claims.{answer_to, taking_one, ups_of}
use Rattle.server_tables.specs.Counting.{AreCounted, IsCounted}
use Rattle.server_tables.specs.Gives.{given}
use Rattle.server_tables.specs.Greetings.{welcoming}
use Rattle.server_tables.specs.Listing.{has_host, no_grace, stopping}
use Rattle.server_tables.specs.Places.{is_of}
use Rattle.server_tables.specs.Updates.{gone_away}
use Rattle.server_tables.specs.declared.hosts.Hosts.{Hosts}
use Rattle.server_tables.specs.declared.recovering.Recovering.{Recovering}
use Rattle.server_tables.specs.declared.tables.LastGive.{LastGive}
use Rattle.server_tables.specs.declared.tables.Tables.{Tables}
use Rattle.server_takes.specs.Drafts.{saying, word}
use Rattle.server_takes.specs.Taking.{AreClaims, IsMadeOf, Made, all_kept, all_returned, bye_state, bye_tables}
use Rattle.server_takes.specs.Taking.{change_made, claim_draft, claim_of}
use Rattle.server_takes.specs.Taking.{comes_new, down_tables, ending, ends_now, fetch_made, freed, give_applied}
use Rattle.server_takes.specs.Taking.{give_draft, give_state}
use Rattle.server_takes.specs.Taking.{give_tables, has_some, hello_state, hello_tables, is_decided_here, is_first}
use Rattle.server_takes.specs.Taking.{keeping, kept_tables}
use Rattle.server_takes.specs.Taking.{made, may_wait, noted, repeated, returned_tables, store_given, takes_fetch}
use Rattle.server_takes.specs.Taking.{takes_gifts}
use Rattle.server_takes.specs.Taking.{want_made, wanted_for}
use Rattle.server_takes.specs.declared.draft.Draft.{Draft}

-- # What the token manager was asked stays

kept_asked : (m : Manager) (host : HostId) (ids : List TokenId) → (all_kept m host ids).asked ≡ m.asked
kept_asked m host [] = refl
kept_asked m host (id ∷ ids) = kept_asked (after_kept m host id) host ids

kept_latest : (m : Manager) (host : HostId) (ids : List TokenId) → (all_kept m host ids).latest ≡ m.latest
kept_latest m host [] = refl
kept_latest m host (id ∷ ids) = kept_latest (after_kept m host id) host ids

returned_asked : (m : Manager) (host : HostId) (ids : List TokenId) → (all_returned m host ids).asked ≡ m.asked
returned_asked m host [] = refl
returned_asked m host (id ∷ ids) = returned_asked (after_returned m host id) host ids

returned_latest : (m : Manager) (host : HostId) (ids : List TokenId) → (all_returned m host ids).latest ≡ m.latest
returned_latest m host [] = refl
returned_latest m host (id ∷ ids) = returned_latest (after_returned m host id) host ids

counted_by : (x : Tables) (tokens : Manager) → tokens.asked ≡ x.tokens.asked → tokens.latest ≡ x.tokens.latest
    → IsCounted x → IsCounted (record x { tokens = tokens })
counted_by x tokens a l k =
    subst (λ (n : ℕ). AreCounted (no_grace x.hosts) n tokens.latest x.pending x.next) (sym a)
    (subst (λ (o : Option ℕ). AreCounted (no_grace x.hosts) x.tokens.asked o x.pending x.next) (sym l) k)

pub kept_counted : (x : Tables) (host : HostId) (named : Named) → IsCounted x → IsCounted (kept_tables x host named)
kept_counted x host named k = counted_by x (all_kept x.tokens host named.ids) (kept_asked x.tokens host named.ids)
    (kept_latest x.tokens host named.ids) k

pub freed_counted : (x : Tables) (host : HostId) (ids : List TokenId) → IsCounted x → IsCounted (freed x host ids)
freed_counted x host ids k = counted_by x (all_returned x.tokens host ids) (returned_asked x.tokens host ids)
    (returned_latest x.tokens host ids) k

pub counted_so : (y z : Tables) → y ≡ z → IsCounted z → IsCounted y
counted_so y z e k = subst IsCounted (sym e) k

-- # Greetings and farewells

module _ (x : Tables) (host : HostId) (state : StoreState) where
  pub hello_known : comes_new x host ≡ false → x ≡ hello_tables x host
  hello_known e = ap (λ (b : Bool). if b then welcoming x host else x) (sym e)

  pub hello_comes : comes_new x host ≡ true → welcoming x host ≡ hello_tables x host
  hello_comes e = ap (λ (b : Bool). if b then welcoming x host else x) (sym e)

  pub hello_rests : comes_new x host ≡ false → state ≡ hello_state x host state
  hello_rests e = ap (λ (b : Bool). if b then host_noted state host Live else state) (sym e)

  pub hello_lists : comes_new x host ≡ true → host_noted state host Live ≡ hello_state x host state
  hello_lists e = ap (λ (b : Bool). if b then host_noted state host Live else state) (sym e)

  pub bye_known : (epoch : ℕ) → ends_now x host epoch ≡ false → x ≡ bye_tables x host epoch
  bye_known epoch e = ap (λ (b : Bool). if b then gone_away x host else x) (sym e)

  pub bye_ends : (epoch : ℕ) → ends_now x host epoch ≡ true → gone_away x host ≡ bye_tables x host epoch
  bye_ends epoch e = ap (λ (b : Bool). if b then gone_away x host else x) (sym e)

  pub bye_rests : (epoch : ℕ) → ends_now x host epoch ≡ false → state ≡ bye_state x host epoch state
  bye_rests epoch e = ap (λ (b : Bool). if b then host_noted state host Ended else state) (sym e)

  pub bye_lists : (epoch : ℕ) → ends_now x host epoch ≡ true → host_noted state host Ended
      ≡ bye_state x host epoch state
  bye_lists epoch e = ap (λ (b : Bool). if b then host_noted state host Ended else state) (sym e)

-- the server is told that a host has stopped: it is on the list of those, and goes away
pub stopped_counted : (x : Tables) (host : HostId) (hosts : Hosts) → hosts ≡ stopping x.hosts host → IsCounted x
    → IsCounted (record x { hosts = hosts })
stopped_counted x host hosts e k = subst (λ (h : Hosts). IsCounted (record x { hosts = h })) (sym e) k

pub stopped_goes : (x : Tables) (host : HostId) (hosts : Hosts) → hosts ≡ stopping x.hosts host → gone_away
    (record x { hosts = hosts }) host ≡ down_tables x host
stopped_goes x host hosts e = ap (λ (h : Hosts). gone_away (record x { hosts = h }) host) e

-- # Requests

-- an equal request with equal needs makes the same
pub want_so : (x : Tables) (d : Draft) (host : HostId) (r s : Request) (m n : List Need) → r ≡ s → m ≡ n
    → want_made x d (wanted_for host r m) ≡ want_made x d (wanted_for host s n)
want_so x d host r s m n e f =
    ap (λ (v : Request). want_made x d (wanted_for host v m)) e ∙ ap
    (λ (v : List Need). want_made x d (wanted_for host s v)) f

module _ (x : Tables) (d : Draft) (host : HostId) (fetch : FetchOf) where
  abbrev fetch_by : Bool → Made
  fetch_by b = if b then want_made x d (wanted_for host (Asks fetch) fetch.needs) else made x d

  pub fetch_dropped : takes_fetch x host fetch ≡ false → made x d ≡ fetch_made x d host fetch
  fetch_dropped e = ap fetch_by (sym e)

  pub fetch_wanted : takes_fetch x host fetch ≡ true → want_made x d (wanted_for host (Asks fetch) fetch.needs)
      ≡ fetch_made x d host fetch
  fetch_wanted e = ap fetch_by (sym e)

module _ (x : Tables) (d : Draft) (host : HostId) (change : ChangeOf) (needs : List Need) where
  abbrev change_by : Bool → Bool → Bool → Made
  change_by h o w =
      if h && o then made x (repeated x d host (answer_again x host change))
      else (if h && not o && w then want_made x d (wanted_for host (Changes change) needs) else made x d)

  change_elsewhere : is_decided_here x change ≡ false → made x d ≡ change_made x d host change needs
  change_elsewhere e = ap (λ (h : Bool). change_by h (is_old x host change) (may_wait x host change)) (sym e)

  change_again : is_decided_here x change ≡ true → is_old x host change ≡ true
      → made x (repeated x d host (answer_again x host change)) ≡ change_made x d host change needs
  change_again e f =
      ap (λ (o : Bool). change_by true o (may_wait x host change)) (sym f)
      ∙ ap (λ (h : Bool). change_by h (is_old x host change) (may_wait x host change)) (sym e)

  change_so : (w : Bool) → is_decided_here x change ≡ true → is_old x host change ≡ false → may_wait x host change ≡ w
      → change_by true false w ≡ change_made x d host change needs
  change_so w e f g =
      ap (λ (v : Bool). change_by true false v) (sym g)
      ∙ ap (λ (o : Bool). change_by true o (may_wait x host change)) (sym f)
      ∙ ap (λ (h : Bool). change_by h (is_old x host change) (may_wait x host change)) (sym e)

  by_made : (y : Tables) (e : Draft) (one other : Made) → y ≡ one.tables → e ≡ one.draft → one ≡ other
      → IsMadeOf x d y e other
  by_made y e one other p q s = record
      { tables = p ∙ ap (λ (m : Made). m.tables) s; draft = q ∙ ap (λ (m : Made). m.draft) s }

  pub is_elsewhere : is_decided_here x change ≡ false → IsMadeOf x d x d (change_made x d host change needs)
  is_elsewhere e = by_made x d (made x d) (change_made x d host change needs) refl refl (change_elsewhere e)

  pub is_again : (after : Draft) → is_decided_here x change ≡ true → is_old x host change ≡ true
      → after ≡ repeated x d host (answer_again x host change) → IsMadeOf x d x after
      (change_made x d host change needs)
  is_again after e f q =
      by_made x after (made x (repeated x d host (answer_again x host change)))
      (change_made x d host change needs) refl q (change_again e f)

  pub is_dropped : is_decided_here x change ≡ true → is_old x host change ≡ false → may_wait x host change ≡ false
      → IsMadeOf x d x d (change_made x d host change needs)
  is_dropped e f g = by_made x d (made x d) (change_made x d host change needs) refl refl (change_so false e f g)

  pub is_wanted : (y : Tables) (after : Draft) → is_decided_here x change ≡ true → is_old x host change ≡ false
      → may_wait x host change ≡ true
      → IsMadeOf x d y after (want_made x d (wanted_for host (Changes change) needs)) → IsMadeOf x d y after
      (change_made x d host change needs)
  is_wanted y after e f g w =
      by_made y after (want_made x d (wanted_for host (Changes change) needs))
      (change_made x d host change needs) w.tables w.draft (change_so true e f g)

-- # Tokens that come back

module _ (x : Tables) (host : HostId) (ids : List TokenId) where
  abbrev freed_by : Manager → Bool → Tables
  freed_by tokens b = record x {
    tokens = tokens;
    recovering = if b then x.recovering else record x.recovering { given_up = ups_of x.recovering.given_up host ids };
  }

  pub freed_back : (tokens : Manager) → tokens ≡ all_returned x.tokens host ids → has_host x.hosts.reclaimed host ≡ true
      → record x { tokens = tokens } ≡ freed x host ids
  freed_back tokens e f =
      ap (λ (m : Manager). freed_by m true) e ∙ ap (freed_by (all_returned x.tokens host ids)) (sym f)

  pub freed_noted : (tokens : Manager) (after : Recovering) → tokens ≡ all_returned x.tokens host ids
      → has_host x.hosts.reclaimed host ≡ false
      → after ≡ record x.recovering { given_up = ups_of x.recovering.given_up host ids }
      → record x { tokens = tokens; recovering = after } ≡ freed x host ids
  freed_noted tokens after e f r =
      ap (λ (v : Recovering). record x { tokens = tokens; recovering = v }) r
      ∙ ap (λ (m : Manager). freed_by m false) e ∙ ap (freed_by (all_returned x.tokens host ids)) (sym f)

module _ (x : Tables) (host : HostId) (named : Named) where
  pub returned_elsewhere : is_of x.server named.fid.fileset ≡ false → x ≡ returned_tables x host named
  returned_elsewhere e = ap (λ (b : Bool). if b then freed x host named.ids else x) (sym e)

  pub returned_here : is_of x.server named.fid.fileset ≡ true → freed x host named.ids ≡ returned_tables x host named
  returned_here e = ap (λ (b : Bool). if b then freed x host named.ids else x) (sym e)

-- # Give-backs

module _ (x : Tables) (host : HostId) (give : Give) where
  abbrev gives_by : Bool → List LastGive
  gives_by b = if b then given x.gives host (number_of give) else x.gives

  abbrev noted_first : Tables
  noted_first = record x { gives = gives_by (is_first x host give) }

  abbrev noted_by : Bool → Tables
  noted_by b = record x {
    gives = gives_by (is_first x host give);
    recovering = if b then x.recovering else record x.recovering
        { taken = taking_one x.recovering.taken host (number_of give) };
  }

  pub gives_again : is_first x host give ≡ false → x ≡ noted_first
  gives_again e = ap (λ (b : Bool). record x { gives = gives_by b }) (sym e)

  pub gives_first : is_first x host give ≡ true → record x { gives = given x.gives host (number_of give) } ≡ noted_first
  gives_first e = ap (λ (b : Bool). record x { gives = gives_by b }) (sym e)

  -- `mid`: the tables where the number was noted
  pub noted_back : (mid : Tables) → mid ≡ noted_first → has_host mid.hosts.reclaimed host ≡ true → mid
      ≡ noted x host give
  noted_back mid e f =
      let was : has_host x.hosts.reclaimed host ≡ true = ap (λ (z : Tables). has_host z.hosts.reclaimed host) (sym e)
      ∙ f in
      e ∙ ap noted_by (sym was)

  pub noted_taken : (mid : Tables) (after : Recovering) → mid ≡ noted_first → has_host mid.hosts.reclaimed host ≡ false
      → after ≡ record mid.recovering { taken = taking_one mid.recovering.taken host (number_of give) }
      → record mid { recovering = after } ≡ noted x host give
  noted_taken mid after e f r =
      let was : has_host x.hosts.reclaimed host ≡ false = ap (λ (z : Tables). has_host z.hosts.reclaimed host) (sym e)
      ∙ f in
      ap (λ (v : Recovering). record mid { recovering = v }) r
      ∙ ap (λ (z : Tables). record z
      { recovering = record z.recovering { taken = taking_one z.recovering.taken host (number_of give) } }) e
      ∙ ap noted_by (sym was)

  pub given_elsewhere : is_of x.server give.fid.fileset ≡ false → x ≡ give_tables x host give
  given_elsewhere e = ap (λ (b : Bool). if b then freed (noted x host give) host give.ids else x) (sym e)

  pub given_here : is_of x.server give.fid.fileset ≡ true → freed (noted x host give) host give.ids
      ≡ give_tables x host give
  given_here e = ap (λ (b : Bool). if b then freed (noted x host give) host give.ids else x) (sym e)

module _ (x : Tables) (host : HostId) (give : Give) (state : StoreState) where
  abbrev state_by : Bool → Bool → StoreState
  state_by h f = if h && f then store_given host give state else state

  pub state_elsewhere : is_of x.server give.fid.fileset ≡ false → state ≡ give_state x host give state
  state_elsewhere e = ap (λ (h : Bool). state_by h (is_first x host give)) (sym e)

  pub state_here : is_of x.server give.fid.fileset ≡ true
      → (if is_first x host give then store_given host give state else state) ≡ give_state x host give state
  state_here e = ap (λ (h : Bool). state_by h (is_first x host give)) (sym e)

  pub state_again : is_first x host give ≡ false → state ≡
      (if is_first x host give then store_given host give state else state)
  state_again e = ap (state_by true) (sym e)

  pub state_first : is_first x host give ≡ true → store_given host give state ≡
      (if is_first x host give then store_given host give state else state)
  state_first e = ap (state_by true) (sym e)

-- what a store keeps that was asked first whether it keeps what is given
pub stored_none : (host : HostId) (give : Give) (state : StoreState) (may : Bool) → may ≡
    (has_some give && takes_gifts (status_told state give.fid)) → may ≡ false
    → state ≡ store_given host give state
stored_none host give state may e f = ap (λ (b : Bool). if b then (act_done state (giving host give)).state else state)
    (sym f ∙ e)

pub keeping_none : (d : Draft) (host : HostId) (give : Give) (state : StoreState) (may : Bool) → may ≡
    (has_some give && takes_gifts (status_told state give.fid)) → may ≡ false
    → d ≡ keeping d host give (has_some give && takes_gifts (status_told state give.fid))
keeping_none d host give state may e f = ap (keeping d host give) (sym f ∙ e)

pub keeping_some : (d : Draft) (host : HostId) (give : Give) (state : StoreState) (may : Bool) → may ≡
    (has_some give && takes_gifts (status_told state give.fid)) → may ≡ true
    → keeping d host give true ≡ keeping d host give (has_some give && takes_gifts (status_told state give.fid))
keeping_some d host give state may e f = ap (keeping d host give) (sym f ∙ e)

module _ (x : Tables) (d : Draft) (host : HostId) (give : Give) (told : Option Status) where
  abbrev draft_by : Bool → Draft
  draft_by b = if b then saying (give_applied x d host give told) (word x host (Gone (number_of give))) else d

  pub draft_elsewhere : is_of x.server give.fid.fileset ≡ false → d ≡ give_draft x d host give told
  draft_elsewhere e = ap draft_by (sym e)

  pub draft_here : (mid : Draft) → is_of x.server give.fid.fileset ≡ true → mid ≡ give_applied x d host give told
      → saying mid (word x host (Gone (number_of give))) ≡ give_draft x d host give told
  draft_here mid e f = ap (λ (z : Draft). saying z (word x host (Gone (number_of give)))) f ∙ ap draft_by (sym e)

module _ (x : Tables) (d : Draft) (host : HostId) (give : Give) (told : Option Status) where
  abbrev applied_by : Bool → Draft
  applied_by b = if b then ending (keeping d host give (b && (has_some give && takes_gifts told))) host give else d

  pub applied_again : is_first x host give ≡ false → d ≡ give_applied x d host give told
  applied_again e = ap applied_by (sym e)

  pub applied_first : is_first x host give ≡ true
      → ending (keeping d host give (has_some give && takes_gifts told)) host give ≡ give_applied x d host give told
  applied_first e = ap applied_by (sym e)

-- # Claims

pub claim_noted : (old after : Recovering) (host : HostId) (claim : ReclaimOf)
    → (In (claim_of host claim) old.claims × (after ≡ old)) ⊎
    (after ≡ record old { claims = old.claims ++ claim_of host claim ∷ [] })
    → (after ≡ record old { claims = after.claims }) × AreClaims host claim old.claims after.claims
claim_noted old after host claim (inl p) = (
  p.1 ∙ ap (λ (r : Recovering). record old { claims = r.claims }) (sym p.1),
  inl
      (p.0, ap (λ (r : Recovering). r.claims) p.1),
)
claim_noted old after host claim (inr p) =
    (p ∙ ap (λ (r : Recovering). record old { claims = r.claims }) (sym p), inr (ap (λ (r : Recovering). r.claims) p))

module _ (x : Tables) (d : Draft) (host : HostId) where
  abbrev draft_if : Bool → Draft
  draft_if b = if b then option_map_or (λ answer. saying d (word x host (Welcome answer)))
      (answer_to x.recovering.answers host) d else d

  pub claim_waits : has_host x.hosts.reclaimed host ≡ false → d ≡ claim_draft x d host
  claim_waits e = ap draft_if (sym e)

  pub claim_answered : (answer : Reclaimed) → has_host x.hosts.reclaimed host ≡ true → Some answer
      ≡ answer_to x.recovering.answers host
      → saying d (word x host (Welcome answer)) ≡ claim_draft x d host
  claim_answered answer e f =
      ap (λ (o : Option Reclaimed). option_map_or (λ a. saying d (word x host (Welcome a))) o d) f ∙ ap draft_if (sym e)

  pub claim_unanswered : has_host x.hosts.reclaimed host ≡ true → None ≡ answer_to x.recovering.answers host → d
      ≡ claim_draft x d host
  claim_unanswered e f =
      ap (λ (o : Option Reclaimed). option_map_or (λ a. saying d (word x host (Welcome a))) o d) f ∙ ap draft_if (sym e)

  pub repeats : (o : Option DoneOf) (done : DoneOf) → Some done ≡ o → saying d (word x host (Done done))
      ≡ repeated x d host o
  repeats o done e = ap (repeated x d host) e

  pub repeats_none : (o : Option DoneOf) → None ≡ o → d ≡ repeated x d host o
  repeats_none o e = ap (repeated x d host) e
