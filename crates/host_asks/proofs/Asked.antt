-- What is asked of a server that may be asked.
use Rattle.std.proofs.Common.{◌≡◌, ◌&&◌, ◌∙◌, ◌+◌, Bool, List, Some, ap, false, not, refl, subst, sym, true, ℕ}
use Rattle.std.proofs.Common.{Option, if◌then◌else◌}
use Rattle.std.specs.List.{list_any}
use Rattle.std.proofs.lemmas.Bool.{and_parts}
use Rattle.base_types.specs.declared.ids.Fid.{Fid}
use Rattle.base_types.specs.declared.ids.FilesetId.{FilesetId}
use Rattle.base_types.specs.declared.ids.ServerId.{ServerId}
use Rattle.host_asks.specs.Asking.{AsksFor, Doing, Fetches, asking_question, changing, coming_to, doing, fetching}
use Rattle.host_asks.specs.Asking.{fileset_of, greeting, is_entering, may_ask, next_change, server_of}
use Rattle.host_asks.specs.Asking.AsksFor.{Changes, Comes, FetchesIt, Waits}
use Rattle.host_calls.specs.declared.looking.Question.{Question}
use Rattle.host_gives.specs.Giving.{is_of_file}
use Rattle.host_leaves.specs.Owning.{is_use}
use Rattle.host_leaves.specs.Sending.{saying, sending_request}
use Rattle.host_tables.specs.Tables.{last_change, site_at}
use Rattle.host_tables.specs.Updates.{home_at, with_change, with_fetch, with_site}
use Rattle.host_tables.specs.declared.calls.Request.{Request}
use Rattle.host_tables.specs.declared.calls.Request.TheVariants.{Change as AChange, Fetch as AFetch}
use Rattle.host_tables.specs.declared.draft.Draft.{Draft}
use Rattle.host_tables.specs.declared.numbers.Changed.{Changed}
use Rattle.host_tables.specs.declared.numbers.Fetched.{Fetched}
use Rattle.host_tables.specs.declared.sites.Site.{Site}
use Rattle.host_tables.specs.declared.tables.Tables.{Tables}
use Rattle.message_types.specs.Soundness.{no_fid}
use Rattle.message_types.specs.declared.asking.Change.{Change}
use Rattle.message_types.specs.declared.asking.Fetch.{Fetch}
use Rattle.message_types.specs.declared.message.Body.TheVariants.{Hello}
use Rattle.token_types.specs.declared.token.Need.{Need}
use Rattle.tree_calls.specs.declared.call.Call.{Call}

pub coming_same : (server : ServerId) (at : Doing) → may_ask server at ≡ true → coming_to server at ≡ at
coming_same server at e =
    let site = site_at at.tables.sites server in
    ap (λ b. if b then at else greeting server at) (and_parts site.greeted site.welcome e).0

module _ (question : Question) (k : ℕ) (call : Call) (at : Doing) where
  abbrev change_at : Doing → Doing
  change_at mid = changing (server_of question)
      (next_change mid.tables (server_of question) (fileset_of question) no_fid (is_entering question) k call) mid

  abbrev by_may : Bool → Doing
  by_may b = if b then change_at at else coming_to (server_of question) at

  pub asked_on : (mid new : Doing) → mid ≡ coming_to (server_of question) at → may_ask (server_of question) at ≡ true →
      new ≡ change_at mid → new ≡ asking_question question k call at
  asked_on mid new comes may is =
      is ∙ ap change_at (comes ∙ coming_same (server_of question) at may) ∙ sym (ap by_may may)

  pub asked_not : (new : Doing) → new ≡ coming_to (server_of question) at → may_ask (server_of question) at ≡ false →
      new ≡ asking_question question k call at
  asked_not new comes may = comes ∙ sym (ap by_may may)

-- ---- whether a server may be asked
both_so : (a b : Bool) → a ≡ true → b ≡ (a && b)
both_so true b e = refl
both_so false b e = absurd (cc)

neither : (a b : Bool) → a ≡ false → false ≡ (a && b)
neither false b e = refl
neither true b e = absurd (cc)

module _ (server : ServerId) (at : Doing) (site : Site) (is : site ≡ site_at at.tables.sites server) where
  pub is_welcome : site.greeted ≡ true → site.welcome ≡ may_ask server at
  is_welcome greeted =
      both_so site.greeted site.welcome greeted ∙ ap (λ (s : Site). s.greeted && s.welcome) is

  pub stays_so : site.greeted ≡ true → at ≡ coming_to server at
  stays_so greeted =
      sym (ap (λ b. if b then at else greeting server at) (ap (λ (s : Site). s.greeted) (sym is) ∙ greeted))

  pub is_unknown : site.greeted ≡ false → false ≡ may_ask server at
  is_unknown greeted =
      neither site.greeted site.welcome greeted ∙ ap (λ (s : Site). s.greeted && s.welcome) is

  pub greets : site.greeted ≡ false → (sites : List Site) →
      sites ≡ with_site (record site { greeted = true }) at.tables.sites → (draft : Draft) →
      draft ≡ saying (record at.tables { sites = sites }) server Hello at.draft →
      doing (record at.tables { sites = sites }) draft ≡ coming_to server at
  greets greeted sites sites_are draft says =
      let new : List Site → Tables = λ s. record at.tables { sites = s } in
      let told : Site → List Site = λ s. with_site (record s { greeted = true }) at.tables.sites in
      ap (doing (new sites)) says
      ∙ ap (λ (s : List Site). doing (new s) (saying (new s) server Hello at.draft)) (sites_are ∙ ap told is)
      ∙ sym (ap (λ b. if b then at else greeting server at) (ap (λ (s : Site). s.greeted) (sym is) ∙ greeted))

-- ---- a Change, and a Fetch
abbrev sent_by : Tables → Option Request → Draft → Doing
sent_by m request draft =
    let new : Tables = record m { request = request } in doing new (sending_request new new.request draft)

module _ (server : ServerId) (fileset : FilesetId) (fid : Fid) (enter : Bool) (k : ℕ) (call : Call) (at : Doing)
  where
    abbrev change_by : ℕ → List Changed → Call → Doing
    change_by number changed copy =
        let change : Change = record {
          number = number;
          fileset = fileset;
          fid = fid;
          enter = enter;
          k = k;
          call = copy;
        } in
        let new : Tables = record at.tables { changed = changed; request = Some (AChange server change) } in
        doing new (sending_request new new.request at.draft)

    pub change_done : (number : ℕ) (changed : List Changed) (copy : Call) (request : Option Request) (draft : Draft) →
        number ≡ last_change at.tables.changed server fileset + 1 →
        changed ≡ with_change server fileset number at.tables.changed → copy ≡ call →
        request ≡ (change_by number changed copy).tables.request →
        draft ≡ (sent_by (record at.tables { changed = changed }) request at.draft).draft →
        doing (record at.tables { changed = changed; request = request }) draft
        ≡ changing server (next_change at.tables server fileset fid enter k call) at
    change_done number changed copy request draft number_is changed_are copy_is request_is sent =
        let all = changed_are ∙ ap (λ n. with_change server fileset n at.tables.changed) number_is in
        ap (doing (record at.tables { changed = changed; request = request })) sent
        ∙ ap (λ (r : Option Request). sent_by (record at.tables { changed = changed }) r at.draft) request_is
        ∙ (λ i. change_by (number_is i) (all i) (copy_is i))

module _ (fetch : Fetch) (at : Doing) where
  abbrev fetch_by : List Fetched → Doing
  fetch_by fetched = sent_by (record at.tables { fetched = fetched }) (Some (AFetch fetch)) at.draft

  pub fetch_done : (fetched : List Fetched) (request : Option Request) (draft : Draft) →
      fetched ≡ with_fetch fetch.fid.fileset fetch.number at.tables.fetched → request ≡ Some (AFetch fetch) →
      draft ≡ (sent_by (record at.tables { fetched = fetched }) request at.draft).draft →
      doing (record at.tables { fetched = fetched; request = request }) draft ≡ fetching fetch at
  fetch_done fetched request draft fetched_are request_is sent =
      ap (doing (record at.tables { fetched = fetched; request = request })) sent
      ∙ ap (λ (r : Option Request). sent_by (record at.tables { fetched = fetched }) r at.draft) request_is
      ∙ ap fetch_by fetched_are

-- ---- what the open call lacks
wait_parts : (a b : Bool) → (not a && b) ≡ true → (a ≡ false) × (b ≡ true)
wait_parts false b e = (refl, e)
wait_parts true b e = absurd (cc)

no_wait : (a b : Bool) → (not a && b) ≡ false → a ≡ false → b ≡ true → ⊥
no_wait true b e p q = absurd (cc)
no_wait false b e p q = absurd (cc)

module _ (need : Need) (k : ℕ) (call : Call) (at : Doing) where
  abbrev gives : Bool
  gives = list_any (is_of_file need.fid) at.tables.gives.gives

  pub for_none : (not (is_use need.kind) && gives) ≡ true → AsksFor need k call at at
  for_none waits = let p = wait_parts (is_use need.kind) gives waits in Waits p.0 p.1 refl

  module _ (server : ServerId) (is : server ≡ home_at need.fid.fileset) where
    pub for_comes : (not (is_use need.kind) && gives) ≡ false → may_ask server at ≡ false → (new : Doing) →
        new ≡ coming_to server at → AsksFor need k call at new
    for_comes waits may new comes =
        Comes (no_wait (is_use need.kind) gives waits) (ap (λ s. may_ask s at) (sym is) ∙ may)
        (comes ∙ ap (λ s. coming_to s at) is)

    module _ (may : may_ask server at ≡ true) (mid : Doing) (comes : mid ≡ coming_to server at) (new : Doing) where
      abbrev asked_at : ServerId → Doing → Doing
      asked_at s d = changing s (next_change d.tables s need.fid.fileset need.fid false k call) d

      pub for_change : is_use need.kind ≡ true → new ≡ asked_at server mid → AsksFor need k call at new
      for_change taken asked =
          let same = comes ∙ coming_same server at may in
          Changes taken (ap (λ s. may_ask s at) (sym is) ∙ may) (asked ∙ (λ i. asked_at (is i) (same i)))

      pub for_fetch : is_use need.kind ≡ false → (not (is_use need.kind) && gives) ≡ false →
          Fetches call need.fid mid new → AsksFor need k call at new
      for_fetch kind waits asked =
          FetchesIt kind (λ given. no_wait (is_use need.kind) gives waits kind given)
          (ap (λ s. may_ask s at) (sym is) ∙ may)
          (subst (λ (d : Doing). Fetches call need.fid d new) (comes ∙ coming_same server at may) asked)
