-- The last steps of a host: it stops, or says Bye.
use Rattle.base_types.specs.declared.ids.Node.TheVariants.{Host}
use Rattle.base_types.specs.declared.ids.ServerId.{ServerId}
use Rattle.host_cache.specs.Holding.{tokens_of}
use Rattle.host_cache.specs.Seen.{Kept}
use Rattle.host_leaves.specs.Giving.{leaves_by}
use Rattle.host_leaves.specs.Sending.{message_to, saying}
use Rattle.host_manager.proofs.Folding.{OnlySends, fold_only, fold_said, fold_says, saying_keeps, saying_said}
use Rattle.host_manager.proofs.Folding.{saying_says, where_keeps, where_only, where_says}
use Rattle.host_manager.proofs.Running.{runs_on}
use Rattle.host_manager.specs.Closing.{GoesDown, downing, has_parted_from, is_to_part, parting, with_byes}
use Rattle.host_manager.specs.Spoken.{IsFree as IsFreePair}
use Rattle.host_tables.proofs.Closing.{byes_right, stop_may}
use Rattle.host_tables.proofs.Declared.{declared_site, server_listed, site_declared, site_is, site_there}
use Rattle.host_tables.proofs.HearingParts.{server_is}
use Rattle.host_tables.proofs.Lists.{in_map, map_in, or_right}
use Rattle.host_tables.proofs.Tidy.{tidy_stays}
use Rattle.host_tables.specs.Closing.{ByesFrom, DownFrom, goes_down, says_bye}
use Rattle.host_tables.specs.Drafts.{no_draft, step_of}
use Rattle.host_manager.specs.Running.{EndRight, IsRunning, RunsOn, StopRight}
use Rattle.host_tables.specs.Tables.{fresh_site, held_of, site_at}
use Rattle.host_tables.specs.Tidy.{IsTidy, servers_in}
use Rattle.host_tables.specs.declared.draft.Draft.{Draft}
use Rattle.host_tables.specs.declared.sites.Site.{Site}
use Rattle.host_tables.specs.declared.tables.Tables.{Tables}
use Rattle.message_types.specs.Soundness.{Goes, HasMoves, IsBody, IsServer, IsSound}
use Rattle.message_types.specs.declared.message.Body.{Body}
use Rattle.message_types.specs.declared.message.Body.TheVariants.{Bye, Down}
use Rattle.message_types.specs.declared.message.Direction.TheVariants.{ToServer}
use Rattle.message_types.specs.declared.message.Message.{Message}
use Rattle.run_rules.specs.HostMay.{HostMay}
use Rattle.run_rules.specs.Past.{In}
use Rattle.run_rules.specs.declared.applied.Leave.{Leave}
use Rattle.run_rules.specs.declared.applied.Why.TheVariants.{Stopped}
use Rattle.run_rules.specs.declared.step.Cause.TheVariants.{End, Line as LineOf}
use Rattle.run_rules.specs.declared.step.Step.{Step}
use Rattle.script_lines.specs.declared.script.Script.{Script}
use Rattle.std.proofs.Common.{Bool, List, Some, [], ap, arith, cond, false, fold, if◌then◌else◌, inl, inr, map, not}
use Rattle.std.proofs.Common.{refl, subst, sym, true, unwrap_or, ℕ, ◌&&◌, ◌++◌, ◌==◌, ◌||◌, ◌∙◌, ◌∷◌, ◌≡◌, ◌⊎◌}
use Rattle.std.proofs.lemmas.Bool.{and_parts}
use Rattle.std.specs.List.{find}
use Rattle.token_types.specs.declared.token.Token.{Token}
use Rattle.tree_calls.specs.declared.roster.Roster.{Roster}
use Rattle.host_tables.proofs.AtOnce as at_once

-- a message to a declared server that says nothing else is sound
plain_sound : (roster : Roster) (m : Tables) (site : Site) (b : Body) → IsTidy roster m → In site m.sites
    → Goes b ToServer → HasMoves b 0 → IsBody roster (message_to m site.server b) b
    → IsSound roster (message_to m site.server b)
plain_sound roster m site b tidy i goes moves body = record {
  host = tidy.host;
  server = site_declared roster m tidy site i;
  way = goes;
  apart = λ e. absurd (cc);
  moves = moves;
  body = body;
}

-- # It stops
module _ (script : Script) (m : Tables) (past : List Step) (running : IsRunning script m past) (cache : Kept) where
  abbrev new : Tables
  new = record m { cache = cache }

  abbrev pub drops : List Leave
  drops = map (leaves_by Stopped) (tokens_of m.cache.held)

  abbrev dropped : Draft
  dropped = record no_draft { dropped = [] ++ drops }

  abbrev pub told : Draft
  told = fold (downing new) dropped m.sites

  pub down_only : OnlySends dropped told
  down_only = fold_only (downing new) (λ d x. refl) dropped m.sites

  pub down_said : (y : Message) → In y told.sent → (site : Site) × In site m.sites
      × (y ≡ message_to new site.server Down)
  down_said y i = elim (fold_says (downing new) (λ site y. y ≡ message_to new site.server Down)
      (λ d site y j. saying_says new site.server Down d y j) dropped m.sites y i) [
        | inl n ↦ elim n [ ]
        | inr r ↦ r
      ]

  down_in : (site : Site) → In site m.sites → In (message_to new site.server Down) told.sent
  down_in site i = fold_said (downing new) (λ d x y j. saying_keeps new x.server Down d y j) site
      (message_to new site.server Down) (λ d. saying_said new site.server Down d) dropped m.sites i

  down_to : (v : ServerId) → IsServer script.roster v → (y : Message) × In y told.sent × (y.server ≡ v)
  down_to v d =
      let r = site_there m.sites v (declared_site script.roster m running.tidy v d) in
      (message_to new r.0.server Down, down_in r.0 r.1, r.2)

  down_from : DownFrom script m drops told.sent
  down_from = record {
    each = λ y i. let r = down_said y i in
        subst (λ (z : Message). (z.epoch ≡ (site_at m.sites z.server).epoch) × (z.body ≡ Down)) (sym r.2) (refl, refl);
    all = λ v i. down_to v (server_listed script.roster v i);
    some =
        let first : ServerId = record { 0 = 1 } in
        let few = running.tidy.some in
        let r = down_to first (record { first = omega arith; last = few }) in (r.0, r.1);
    drops = λ d i. let r = in_map (leaves_by Stopped) (tokens_of m.cache.held) d i in (
      ap (λ (l : Leave). l.why) r.2,
      subst (λ (t : Token). In t (held_of m)) (sym (ap (λ (l : Leave). l.token) r.2)) r.1,
    );
    drops_all = λ t i. (
      leaves_by Stopped t,
      map_in (leaves_by Stopped) (tokens_of m.cache.held) t i,
      refl,
    );
  }

  stop_sound : (y : Message) → In y told.sent → IsSound script.roster y
  stop_sound y i =
      let r = down_said y i in
      subst (IsSound script.roster) (sym r.2)
      (plain_sound script.roster m r.0 Down running.tidy r.1 refl refl tt)

-- the tables and the step are those of the drops and of each Down
pub stop_runs : (m new : Tables) (after : Draft) (number : ℕ) → IsFreePair m → GoesDown m no_draft new after
    → StopRight m number (step_of (Host m.host) (LineOf number) after)
stop_runs m new after number free goes script past running line next deed =
    let tables : new ≡ record m { cache = new.cache } = goes.drops.tables in
    let sites : new.sites ≡ m.sites = ap (λ (t : Tables). t.sites) tables in
    let is : after ≡ told script m past running new.cache =
    goes.says
    ∙ (λ i. fold (downing (tables i)) (goes.drops.draft_is i) (sites i)) in
    let only = down_only script m past running new.cache in
    let step : step_of (Host m.host) (LineOf number) after
    ≡ goes_down m.host number (drops script m past running new.cache) (told script m past running new.cache).sent =
    ap (step_of (Host m.host) (LineOf number)) (is ∙ only) in
    subst (λ (s : Step). HostMay script m.host past s × ((y : Message) → In y s.sent → IsSound script.roster y)
    × (s.cause ≡ LineOf number)) (sym step) (
      stop_may script m past number (drops script m past running new.cache)
          (told script m past running new.cache).sent running.rests
          (record { none_open = free.0; few = free.1 }) line next deed (down_from script m past running new.cache),
      stop_sound script m past running new.cache,
      refl,
    )

-- # It says Bye
parted_at : (sites : List Site) (v : ServerId)
    → site_at (map has_parted_from sites) v ≡ has_parted_from (site_at sites v)
parted_at [] v = refl
parted_at (x ∷ sites) v = by_head (x.server.0 == v.0) (parted_at sites v)
  where
    by_head : (b : Bool) → site_at (map has_parted_from sites) v ≡ has_parted_from (site_at sites v)
        → unwrap_or (cond b (Some (has_parted_from x))
        (find (λ (z : Site). z.server.0 == v.0) (map has_parted_from sites))) (fresh_site v)
        ≡ has_parted_from (unwrap_or (cond b (Some x) (find (λ (z : Site). z.server.0 == v.0) sites)) (fresh_site v))
    by_head true rest = refl
    by_head false rest = rest

servers_parted : (sites : List Site) → servers_in (map has_parted_from sites) ≡ servers_in sites
servers_parted [] = refl
servers_parted (x ∷ sites) = ap (λ (vs : List ServerId). x.server ∷ vs) (servers_parted sites)

-- a site that was greeted is one of the sites
greeted_in : (sites : List Site) (v : ServerId) → (site_at sites v).greeted ≡ true
    → (site : Site) × In site sites × (site.server ≡ v) × (site ≡ site_at sites v)
greeted_in [] v e = absurd (cc)
greeted_in (x ∷ sites) v e = by_head (greeted_in sites v) (x.server.0 == v.0) refl e
  where
    by_head : ((site_at sites v).greeted ≡ true
        → (site : Site) × In site sites × (site.server ≡ v) × (site ≡ site_at sites v))
        → (b : Bool) → (x.server.0 == v.0) ≡ b
        → (unwrap_or (cond b (Some x) (find (λ (z : Site). z.server.0 == v.0) sites)) (fresh_site v)).greeted ≡ true
        → (site : Site) × In site (x ∷ sites) × (site.server ≡ v)
        × (site ≡ unwrap_or (cond b (Some x) (find (λ (z : Site). z.server.0 == v.0) sites)) (fresh_site v))
    by_head rest true t g = (x, inl refl, server_is x.server v t, refl)
    by_head rest false t g = let r = rest g in (r.0, inr r.1, r.2, r.3)

module _ (script : Script) (m : Tables) (past : List Step) (running : IsRunning script m past) where
  abbrev said : Draft
  said = fold (parting m) no_draft m.sites

  abbrev sites : List Site
  sites = map has_parted_from m.sites

  pub bye_said : (y : Message) → In y said.sent
      → (site : Site) × In site m.sites × (is_to_part site ≡ true) × (y ≡ message_to m site.server Bye)
  bye_said y i = elim (fold_says (parting m) (λ site y. (is_to_part site ≡ true) × (y ≡ message_to m site.server Bye))
      (λ d site y j. where_says m (λ x. Bye) is_to_part d site y j) no_draft m.sites y i) [
        | inl n ↦ elim n [ ]
        | inr r ↦ (r.0, r.1, r.2.0, r.2.1)
      ]

  bye_in : (site : Site) → In site m.sites → is_to_part site ≡ true → In (message_to m site.server Bye) said.sent
  bye_in site i t = fold_said (parting m) (λ d x y j. where_keeps m (λ x. Bye) is_to_part d x y j) site
      (message_to m site.server Bye)
      (λ d. subst (λ (b : Bool). In (message_to m site.server Bye) (if b then saying m site.server Bye d else d).sent)
      (sym t) (saying_said m site.server Bye d)) no_draft m.sites i

  noted : (v : ServerId) → site_at sites v ≡ site_at m.sites v
      ⊎ ((site_at sites v ≡ record (site_at m.sites v) { said_bye = true })
      × ((y : Message) × In y said.sent × (y.server ≡ v)))
  noted v = by_case (site_at m.sites v).said_bye (site_at m.sites v).greeted refl refl
    where
      changed : (b : Bool) → ((site_at m.sites v).said_bye || (site_at m.sites v).greeted) ≡ b
          → site_at sites v ≡ record (site_at m.sites v) { said_bye = b }
      changed b e = parted_at m.sites v ∙ ap (λ (b : Bool). record (site_at m.sites v) { said_bye = b }) e

      by_case : (b g : Bool) → (site_at m.sites v).said_bye ≡ b → (site_at m.sites v).greeted ≡ g
          → site_at sites v ≡ site_at m.sites v
          ⊎ ((site_at sites v ≡ record (site_at m.sites v) { said_bye = true })
          × ((y : Message) × In y said.sent × (y.server ≡ v)))
      by_case true g e f = inl (changed true (ap (λ (x : Bool). x || (site_at m.sites v).greeted) e)
          ∙ ap (λ (b : Bool). record (site_at m.sites v) { said_bye = b }) (sym e))
      by_case false false e f = inl (changed false ((λ i. e i || f i))
          ∙ ap (λ (b : Bool). record (site_at m.sites v) { said_bye = b }) (sym e))
      by_case false true e f =
          let r = greeted_in m.sites v f in
          let g : r.0.greeted ≡ true = ap (λ (z : Site). z.greeted) r.3 ∙ f in
          let n : r.0.said_bye ≡ false = ap (λ (z : Site). z.said_bye) r.3 ∙ e in
          let t : is_to_part r.0 ≡ true = λ i. g i && not (n i) in
          inr (changed true (λ i. e i || f i), (message_to m r.0.server Bye, bye_in r.0 r.1 t, r.2))

  byes_from : ByesFrom m sites said.sent
  byes_from = record {
    each = λ y i.
        let r = bye_said y i in
        let g = (and_parts r.0.greeted (not r.0.said_bye) r.2).0 in
        let at = ap (λ (z : Site). z.greeted) (site_is script.roster m running.tidy r.0 r.1) ∙ g in
        subst (λ (z : Message). (z.epoch ≡ (site_at m.sites z.server).epoch) × (z.moves ≡ 0) × (z.body ≡ Bye)
        × ((site_at m.sites z.server).greeted ≡ true)) (sym r.3) (refl, refl, refl, at);
    noted = noted;
    all = λ y i.
        let r = bye_said y i in
        let g = (and_parts r.0.greeted (not r.0.said_bye) r.2).0 in
        let at = ap (λ (z : Site). z.greeted) (site_is script.roster m running.tidy r.0 r.1) ∙ g in
        subst (λ (z : Message). (site_at sites z.server).said_bye ≡ true) (sym r.3)
        (ap (λ (z : Site). z.said_bye) (parted_at m.sites r.0.server)
        ∙ or_right (site_at m.sites r.0.server).said_bye (site_at m.sites r.0.server).greeted at);
  }

  byes_tidy : IsTidy script.roster (with_byes m)
  byes_tidy = tidy_stays script.roster m (with_byes m) running.tidy (record {
    host_is = refl;
    servers = servers_parted m.sites;
    held = λ t i. inl i;
    sizes = λ fid. inl refl;
    leaving = λ y i. inl i;
    gives = λ y g i e. inl i;
    fetch = λ f e. inl e;
    change = λ v c e. inl e;
    call = λ c e. inl e;
    homes = λ h i. inl i;
    floors = λ f i. inl i;
  })

  byes_sound : (y : Message) → In y said.sent → IsSound script.roster y
  byes_sound y i =
      let r = bye_said y i in
      subst (IsSound script.roster) (sym r.3)
      (plain_sound script.roster m r.0 Bye running.tidy r.1 (inl refl) refl tt)

pub byes_run : (m : Tables) → IsFreePair m → m.cache.held ≡ [] → m.gives.gives ≡ []
    → EndRight m (with_byes m) (step_of (Host m.host) End (fold (parting m) no_draft m.sites))
byes_run m free none_held none_given script past running gone =
    let sent : List Message = (fold (parting m) no_draft m.sites).sent in
    let is : step_of (Host m.host) End (fold (parting m) no_draft m.sites) ≡ says_bye m.host sent =
    ap (step_of (Host m.host) End)
    (fold_only (parting m) (λ d x. where_only m (λ z. Bye) is_to_part d x) no_draft m.sites) in
    let right = byes_right script m (map has_parted_from m.sites) past sent running.rests free.0 gone
    (at_once.not_many script m past running.rests.stands free.1) none_held none_given
    (byes_from script m past running) in
    subst (λ (s : Step). RunsOn script m (with_byes m) past s × (s.cause ≡ End)) (sym is) (
      runs_on script m (with_byes m) past (says_bye m.host sent) right refl (byes_tidy script m past running)
          running.ending running.asking
          (λ v e. omega (arith, gone)) (byes_sound script m past running),
      refl,
    )
