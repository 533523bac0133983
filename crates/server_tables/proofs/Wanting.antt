-- What the token manager says is to be asked back is what the rules say.
use Rattle.std.proofs.Common.{◌≡◌, ◌⊎◌, Bool, true, false, ◌&&◌, ◌||◌, not, if◌then◌else◌, List, [], ◌∷◌, ◌++◌, map}
use Rattle.std.proofs.Common.{inl, inr, refl, sym, ◌∙◌, ap, subst}
use Rattle.std.specs.List.{filter, list_any}
use Rattle.std.proofs.lemmas.Bool.{and_from, cases_Bool, false≢true}
use Rattle.base_types.specs.Ids.{same_fid}
use Rattle.base_types.specs.declared.ids.HostId.{HostId}
use Rattle.token_manager.specs.Grants.{asked_back, blocks_any, is_own, to_revoke, wanted_for, wanted_from}
use Rattle.token_manager.specs.Managers.{wanted}
use Rattle.token_manager.specs.WantedLaws.{is_wanted}
use Rattle.token_manager.specs.declared.grants.Grants.{Grants}
use Rattle.token_manager.specs.declared.want.Want.{Want as WantOf}
use Rattle.token_manager.specs.declared.want.Wanted.{Wanted as WantedOf}
use Rattle.token_manager.proofs.Noting.{same_self}
use Rattle.token_manager.proofs.Wanting.{are_just_wanted}
use Rattle.token_table.specs.Marks.{is_pinned, is_revoked}
use Rattle.token_table.specs.Tables.{names_file, near, of_file}
use Rattle.token_types.specs.Conflicts.{blocks, same_id}
use Rattle.token_types.specs.declared.token.Need.{Need}
use Rattle.token_types.specs.declared.token.Token.{Token}
use Rattle.run_rules.specs.Doings.{Doing, IsLive, NoGrace}
use Rattle.run_rules.specs.Past.{In}
use Rattle.run_rules.specs.ServerMay.{IsAskedBack}
use Rattle.run_rules.specs.Wants.{asker, exporter}
use Rattle.run_rules.specs.declared.applied.Wanted.{Wanted}
use Rattle.server_tables.specs.declared.tables.Tables.{Tables}
use Rattle.server_tables.specs.Standing.{Stands, tokens_of, want_for}
use Rattle.server_tables.proofs.Fetching.{same_host}
use Rattle.server_tables.proofs.Granting.{id_is}
use Rattle.server_tables.proofs.Greeting.{in_parts}
use Rattle.server_tables.proofs.Settling.{any_in, in_any, in_map, of_map}
use Rattle.server_tables.proofs.Without.{in_filter, to_filter}

not_true : (b : Bool) → not b ≡ true → b ≡ false
not_true true e = absurd (false≢true e)
not_true false e = refl

-- # What the manager answers

near_in : (tokens : List Token) (earlier needs : List Need) (t : Token) → In t (near tokens earlier needs) → In t tokens
near_in tokens earlier [] t i = elim i [ ]
near_in tokens earlier (need ∷ needs) t i = elim (in_parts t (first (names_file earlier need.fid)) (near tokens
    (earlier ++ need ∷ []) needs) i) [
      | inl p ↦ of_first (names_file earlier need.fid) p
      | inr p ↦ near_in tokens (earlier ++ need ∷ []) needs t p
    ]
  where
    first : Bool → List Token
    first b = if b then [] else of_file tokens need.fid

    of_first : (b : Bool) → In t (first b) → In t tokens
    of_first true m = elim m [ ]
    of_first false m = (in_filter (λ (token : Token). same_fid token.fid need.fid) t tokens m).0

-- a token that a want asks back is granted, in its way and not pinned
pub revokes_of : (grants : Grants) (want : WantOf) (t : Token) → In t (to_revoke grants want)
    → In t (tokens_of grants) × (blocks want.host want.needs t ≡ true) × (is_pinned grants.notes t.id ≡ false)
revokes_of grants want t i =
    let a = in_filter (λ (token : Token). not (is_pinned grants.notes token.id)) t (filter
    (blocks want.host want.needs) (near (tokens_of grants) [] want.needs)) i in
    let b = in_filter (blocks want.host want.needs) t (near (tokens_of grants) [] want.needs) a.0 in
    (near_in (tokens_of grants) [] want.needs t b.0, b.1, not_true (is_pinned grants.notes t.id) a.1)

-- what is wanted is asked back for a queued want
pub record IsWantedBy (grants : Grants) (queue : List WantOf) (w : WantedOf) : Type 0 where
  pub want : WantOf
  pub queued : In want queue
  pub there : In w.token (tokens_of grants)
  pub blocks_it : blocks want.host want.needs w.token ≡ true
  pub unpinned : is_pinned grants.notes w.token.id ≡ false
  pub mark : w.revoked ≡ is_revoked grants.notes w.token.id

wanted_by : (grants : Grants) (earlier queue : List WantOf) (w : WantedOf) → In w (wanted_from grants earlier queue)
    → IsWantedBy grants queue w
wanted_by grants earlier [] w i = elim i [ ]
wanted_by grants earlier (want ∷ queue) w i = elim (in_parts w (wanted_for grants earlier want) (wanted_from grants
    (earlier ++ want ∷ []) queue) i) [
      | inl p ↦ (
          let t = of_map (asked_back grants.notes) w (filter (λ (token : Token). not
          (is_own token || blocks_any earlier token)) (to_revoke grants want)) p in
          let f = in_filter (λ (token : Token). not (is_own token || blocks_any earlier token)) t.0
          (to_revoke grants want) t.1 in
          let r = revokes_of grants want t.0 f.0 in
          let e : t.0 ≡ w.token = ap (λ (z : WantedOf). z.token) t.2 in
          record {
            want = want;
            queued = inl refl;
            there = subst (λ (z : Token). In z (tokens_of grants)) e r.0;
            blocks_it = subst (λ (z : Token). blocks want.host want.needs z ≡ true) e r.1;
            unpinned = subst (λ (z : Token). is_pinned grants.notes z.id ≡ false) e r.2;
            mark = ap (λ (z : WantedOf). z.revoked) (sym t.2) ∙ ap (λ (z : Token). is_revoked grants.notes z.id) e;
          })
      | inr p ↦ (let r = wanted_by grants (earlier ++ want ∷ []) queue w p in
          record {
            want = r.want;
            queued = inr r.queued;
            there = r.there;
            blocks_it = r.blocks_it;
            unpinned = r.unpinned;
            mark = r.mark;
          })
    ]

-- # What the rules say

abbrev pub not_asked : List WantedOf → List Token
not_asked ws = map (λ (w : WantedOf). w.token) (filter (λ (w : WantedOf). not w.revoked) ws)

module _ (past : List Doing) (x : Tables) (s : Stands past x) where
  abbrev grants : Grants
  grants = x.tokens.grants

  -- it is asked back, and wasn't before
  pub to_ask : NoGrace past → (t : Token) → In t (not_asked (wanted x.tokens))
      → In t (tokens_of grants) × (is_revoked grants.notes t.id ≡ false) × IsAskedBack x.server past t
  to_ask over t i =
      let w = of_map (λ (w : WantedOf). w.token) t (filter (λ (w : WantedOf). not w.revoked) (wanted x.tokens)) i in
      let f = in_filter (λ (w : WantedOf). not w.revoked) w.0 (wanted x.tokens) w.1 in
      let r = wanted_by grants [] x.tokens.queue w.0 f.0 in
      let p = of_map want_for r.want x.pending (subst (In r.want) (s.queue.calm over) r.queued) in
      let there = subst (λ (z : Token). In z (tokens_of grants)) w.2 r.there in (
        there,
        subst (λ (z : Token). is_revoked grants.notes z.id ≡ false) w.2 (sym r.mark ∙ not_true w.0.revoked f.1),
        record {
          over = over;
          granted = s.tokens.granted t there;
          unpinned = λ pinned. false≢true (sym (subst (λ (z : Token). is_pinned grants.notes z.id
              ≡ false) w.2 r.unpinned) ∙ s.tokens.pinned_all t pinned);
          w = p.0.wanted;
          waits = s.wants.pending p.0 p.1;
          blocks_it = subst (λ (z : Token). blocks (asker p.0.wanted) p.0.wanted.needs z ≡ true) w.2
              (ap (λ (q : WantOf). blocks q.host q.needs w.0.token) p.2 ∙ r.blocks_it);
        },
      )

  -- and in a grace period nothing is
  pub none_to_ask : (NoGrace past → ⊥) → (t : Token) → In t (not_asked (wanted x.tokens)) → ⊥
  none_to_ask grace t i =
      let e : not_asked (wanted x.tokens) ≡ not_asked (wanted_from grants [] []) = ap (λ (q : List WantOf). not_asked
      (wanted_from grants [] q)) (s.queue.grace grace) in
      elim (subst (λ (l : List Token). In t l) e i) [ ]

  -- each that is asked back was, or is to be
  pub all_to_ask : ((t u : Token) → In t (tokens_of grants) → In u (tokens_of grants) → t.id ≡ u.id → t ≡ u)
      → ((h : HostId) → IsLive past h → h ≡ exporter → ⊥) → (t : Token) → IsAskedBack x.server past t
      → (is_revoked grants.notes t.id ≡ true) ⊎ In t (not_asked (wanted x.tokens))
  all_to_ask one own t a = elim (cases_Bool (is_revoked grants.notes t.id)) [ inl e ↦ inl e | inr e ↦ inr (to e) ]
    where
      there : In t (tokens_of grants)
      there = s.tokens.granted_all t a.granted

      queued : In (want_for (s.wants.pending_all a.w a.waits).0) x.tokens.queue
      queued = let p = s.wants.pending_all a.w a.waits in
          subst (In (want_for p.0)) (sym (s.queue.calm a.over)) (in_map want_for p.0 x.pending p.1)

      in_the_way : blocks_any x.tokens.queue t ≡ true
      in_the_way = let p = s.wants.pending_all a.w a.waits in
          in_any (λ (w : WantOf). blocks w.host w.needs t) (want_for p.0) x.tokens.queue queued
          (subst (λ (w : Wanted). blocks (asker w) w.needs t ≡ true) (sym p.2) a.blocks_it)

      free : is_pinned grants.notes t.id ≡ false
      free = elim (cases_Bool (is_pinned grants.notes t.id)) [
        | inl e ↦ absurd (a.unpinned
            (s.tokens.pinned t there e))
        | inr e ↦ e
      ]

      not_own : is_own t ≡ false
      not_own = elim (cases_Bool (is_own t)) [
        | inl e ↦ absurd (own t.host (s.tokens.live t a.granted) (same_host t.host exporter e))
        | inr e ↦ e
      ]

      is_one : is_wanted x.tokens t ≡ true
      is_one = and_from (blocks_any x.tokens.queue t) (not (is_pinned grants.notes t.id) && not (is_own t)) in_the_way
          (and_from (not (is_pinned grants.notes t.id)) (not (is_own t)) (ap not free) (ap not not_own))

      some : list_any (λ (token : Token). same_id token.id t.id) (map (λ (w : WantedOf). w.token) (wanted x.tokens))
          ≡ true
      some = are_just_wanted x.tokens (λ (token : Token). same_id token.id t.id)
          ∙ in_any (λ (token : Token). is_wanted x.tokens token && same_id token.id t.id) t (tokens_of grants) there
          (and_from (is_wanted x.tokens t) (same_id t.id t.id) is_one (same_self t.id))

      to : is_revoked grants.notes t.id ≡ false → In t (not_asked (wanted x.tokens))
      to e =
          let u = any_in (λ (token : Token). same_id token.id t.id) (map (λ (w : WantedOf). w.token)
          (wanted x.tokens)) some in
          let w = of_map (λ (w : WantedOf). w.token) u.0 (wanted x.tokens) u.1 in
          let r = wanted_by grants [] x.tokens.queue w.0 w.1 in
          let same : w.0.token ≡ t = one w.0.token t r.there there (ap (λ (z : Token). z.id) w.2
          ∙ id_is u.0.id t.id u.2) in
          let fresh : not w.0.revoked ≡ true = ap not (r.mark ∙ ap (λ
          (z : Token). is_revoked grants.notes z.id) same ∙ e) in
          subst (λ (z : Token). In z (not_asked (wanted x.tokens))) same
          (in_map (λ (w : WantedOf). w.token) w.0 (filter (λ (w : WantedOf). not w.revoked) (wanted x.tokens))
          (to_filter (λ (w : WantedOf). not w.revoked) w.0 (wanted x.tokens) w.1 fresh))
