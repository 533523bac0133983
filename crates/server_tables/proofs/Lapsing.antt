-- A lapse: hosts that haven't reclaimed are told of the restart again, and what is owed is asked back again.
use Rattle.std.proofs.Common.{◌≡◌, ◌⊎◌, ℕ, true, false, List, [], ◌∷◌, ◌++◌, map, inl, inr, refl, sym, ◌∙◌, ap, subst}
use Rattle.std.proofs.lemmas.Bool.{cases_Bool}
use Rattle.base_types.specs.declared.ids.HostId.{HostId}
use Rattle.base_types.specs.declared.ids.ServerId.{ServerId}
use Rattle.base_types.specs.declared.ids.Node.TheVariants.{Server}
use Rattle.tree_answers.specs.declared.tree.Tree.{Tree}
use Rattle.message_types.specs.declared.message.Body.{Body}
use Rattle.message_types.specs.declared.message.Body.TheVariants.{Bye, Change, Done, Down, GiveBack, Gone, Hello}
use Rattle.message_types.specs.declared.message.Body.TheVariants.{Reclaim, Reclaimed, Restarted, Revoke}
use Rattle.message_types.specs.declared.message.Message.{Message}
use Rattle.message_types.specs.declared.tokens.Revoke.{Revoke as RevokeOf}
use Rattle.script_lines.specs.declared.script.Script.{Script}
use Rattle.token_table.specs.Marks.{is_pinned, is_revoked}
use Rattle.token_types.specs.declared.token.Token.{Token}
use Rattle.token_types.specs.declared.token.TokenId.{TokenId}
use Rattle.run_rules.specs.Doings.{Doing, Granted, HasReclaimed, HeardNow, IsLive, Pinned, SentNow, TakenNow}
use Rattle.run_rules.specs.Doings.{after_step, sending}
use Rattle.run_rules.specs.Doings.Doing.{Reserves, Sent}
use Rattle.run_rules.specs.Kept.{filesets_kept}
use Rattle.run_rules.specs.Past.{EachInTurn, EachOnce, In, appended}
use Rattle.run_rules.specs.ServerDue.{ServerAnswers, ServerDue}
use Rattle.run_rules.specs.ServerMay.{IsOwed, MaySend, OnlyAnswers, ServerMay}
use Rattle.run_rules.specs.ServerTokens.{ServerTokens}
use Rattle.run_rules.specs.Steps.{bare}
use Rattle.run_rules.specs.declared.step.Cause.TheVariants.{Lapse}
use Rattle.run_rules.specs.declared.step.Step.{Step}
use Rattle.run_tokens.specs.ServerRest.{ServerMeets}
use Rattle.server_tables.specs.declared.tables.Tables.{Tables}
use Rattle.server_tables.specs.Standing.{IsCalm, IsSettled, Stands, tokens_of}
use Rattle.server_tables.proofs.Still.{IsStill, still}
use Rattle.server_tables.proofs.Idle.{idle, no_words, reserves_nothing}
use Rattle.server_tables.proofs.Resting.{NoneClaims, still_settled}
use Rattle.server_tables.proofs.Quiet.{reserves_may}
use Rattle.server_tables.proofs.Settling.{calm_means}
use Rattle.server_tables.proofs.Granting.{in_back}
use Rattle.server_tables.proofs.Greeting.{in_front, in_parts}
use Rattle.server_tables.proofs.Hailing.{hail, in_hails, once_hailed, sends_hailed, settled_hailed, stands_hailed}
use Rattle.server_tables.proofs.Hailing.{to_hails, tokens_hailed}
use Rattle.server_tables.proofs.Making.{after_both}
use Rattle.server_tables.proofs.Revoking.{MayAgain, again_so, is_marked, marking}
use Rattle.server_tables.proofs.Waiting.{Asking, MayNameAll, asked, asked_all, claims_asked, in_revokes, its_ask}
use Rattle.server_tables.proofs.Waiting.{once_all, revoke, server_is_all, stands_a, stands_asked, tokens_may_all}

sending_append : (ms ns : List Message) → sending (ms ++ ns) ≡ sending ms ++ sending ns
sending_append [] ns = refl
sending_append (m ∷ ms) ns = ap (λ (l : List Doing). Sent m.host m.epoch m.moves m.body ∷ l) (sending_append ms ns)

in_turn_both : (may : List Doing → Doing → Type 0) (xs ys past : List Doing) → EachInTurn may xs past
    → EachInTurn may ys (appended xs past)
    → EachInTurn may (xs ++ ys) past
in_turn_both may [] ys past e d = d
in_turn_both may (x ∷ xs) ys past e d = (e.0, in_turn_both may xs ys (x ∷ past) e.1 d)

once_both : (xs ys : List Message) → EachOnce xs → EachOnce ys → ((m : Message) → In m xs → In m ys → ⊥) → EachOnce
    (xs ++ ys)
once_both [] ys e d apart = d
once_both (x ∷ xs) ys e d apart = (
  (λ i. elim (in_parts x xs ys i) [ inl p ↦ e.0 p | inr p ↦ apart x (inl refl) p ]),
  once_both xs ys e.1 d (λ m i j. apart m (inr i) j),
)

abbrev pub MayAgainAll : List Doing → Tables → List Asking → Type 0
MayAgainAll past x [] = Unit {0}
MayAgainAll past x (r ∷ rs) = MayAgain x.server past x.tokens.grants x.stamp r.0 r.1 r.2
    × MayAgainAll (Sent r.0 x.hosts.epoch r.1 (Revoke r.2) ∷ past) (asked x r.2) rs

pub again_names : (past : List Doing) (x : Tables) (rs : List Asking) → MayAgainAll past x rs → MayNameAll past x rs
again_names past x [] may = tt
again_names past x (r ∷ rs) may = (
  may.0.name,
  again_names (Sent r.0 x.hosts.epoch r.1 (Revoke r.2) ∷ past)
      (asked x r.2) rs may.1,
)

again_all : (tree : Tree) (step : Step) → step.cause ≡ Lapse → (past : List Doing) (x : Tables) (rs : List Asking)
    → Stands past x → MayAgainAll past x rs
    → EachInTurn (MaySend x.server tree step) (sending (map (revoke x) rs)) past
again_all tree step lapse past x [] s may = tt
again_all tree step lapse past x (r ∷ rs) s may = (
  again_so x.server past x.tokens.grants (marking x.tokens.grants r.2.ids) x.stamp r.0 x.hosts.epoch r.1 r.2
      s.hosts.epoch_is may.0.name (is_marked x.tokens.grants r.2.ids) s.tokens tree step lapse may.0 s.stamps,
  again_all tree step lapse (Sent r.0 x.hosts.epoch r.1 (Revoke r.2) ∷ past) (asked x r.2) rs
      (stands_a past x s r may.0.name) may.1,
)

-- `hs` are the live hosts that haven't reclaimed, and `rs` name what is owed, each once
module _ (past : List Doing) (x : Tables) (s : Stands past x) (z : IsSettled x.server past) (hs : List HostId)
    (each : (h : HostId) → In h hs → IsLive past h × (HasReclaimed past h → ⊥)) (all : (h : HostId) → IsLive past h →
    (HasReclaimed past h → ⊥) → In h hs)
    (once : EachOnce hs) (rs : List Asking) where
  abbrev hailed : List Doing
  hailed = appended (sending (map (hail x) hs)) past

  module _ (may : MayAgainAll hailed x rs) (calm : IsCalm (asked_all x rs).tokens.grants (asked_all x rs).tokens.queue)
      (apart : (q o : Asking) (i : TokenId) → In q rs → In o rs → q.0 ≡ o.0 → In i q.2.ids → In i o.2.ids → q.2 ≡ o.2)
      (named : (t : Token) → In t (tokens_of (asked_all x rs).tokens.grants) → is_revoked
      (asked_all x rs).tokens.grants.notes t.id ≡ true
      → is_pinned (asked_all x rs).tokens.grants.notes t.id ≡ false → (q : Asking) × In q rs × (q.0 ≡ t.host)
      × In t.id q.2.ids) where
    abbrev y : Tables
    y = asked_all x rs

    abbrev ms : List Message
    ms = map (hail x) hs ++ map (revoke x) rs

    abbrev step : Step
    step = record (bare (Server x.server) Lapse) { sent = ms }

    abbrev told : List Doing
    told = appended (sending (map (revoke x) rs)) hailed

    is_told : told ≡ appended (sending ms) past
    is_told = sym (ap (λ (l : List Doing). appended l past) (sending_append (map (hail x) hs) (map (revoke x) rs))
        ∙ after_both (sending (map (hail x) hs)) (sending (map (revoke x) rs)) past)

    sh : Stands hailed x
    sh = stands_hailed past x hs s

    zh : IsSettled x.server hailed
    zh = settled_hailed past x hs s z

    names : MayNameAll hailed x rs
    names = again_names hailed x rs may

    st : Stands told y
    st = stands_asked hailed x rs sh names

    zt : IsSettled y.server told
    zt = calm_means told y st calm (subst (λ (v : ServerId). NoneClaims v told) (sym (server_is_all x rs))
        (claims_asked hailed x rs sh names zh.claims))

    kept_still : IsStill y.server y.stamp told (Reserves [])
    kept_still = idle y.server y.stamp told (Reserves []) reserves_nothing (no_words told)

    pub stands_lapsed : Stands (after_step step past) y
    stands_lapsed = subst (λ (l : List Doing). Stands (Reserves [] ∷ l) y) is_told (still told
        (Reserves []) y kept_still st)

    pub settled_lapsed : IsSettled x.server (after_step step past)
    settled_lapsed = subst (λ (l : List Doing). IsSettled x.server (Reserves [] ∷ l)) is_told
        (subst (λ (v : ServerId). IsSettled v (Reserves [] ∷ told)) (server_is_all x rs) (still_settled told
        (Reserves []) y st kept_still zt))

    -- what is said is one or the other
    what : (h : HostId) (d : Body) → SentNow step h d → (In h hs × (Restarted ≡ d)) ⊎ ((q : Asking) × In q rs ×
        (q.0 ≡ h) × (Revoke q.2 ≡ d))
    what h d w = elim (in_parts w.0 (map (hail x) hs) (map (revoke x) rs) w.1) [
      | inl i ↦ (let q = in_hails x hs w.0 i in inl (
        subst (λ (k : HostId). In k hs)
            (sym (ap (λ (n : Message). n.host) q.2) ∙ w.2) q.1,
        sym (ap (λ (n : Message). n.body) q.2) ∙ w.3,
      ))
      | inr i ↦ (let q = in_revokes x rs w.0 i in inr (
        q.0,
        q.1,
        sym (ap (λ (n : Message). n.host) q.2) ∙ w.2,
        sym (ap (λ (n : Message). n.body) q.2) ∙ w.3,
      ))
    ]

    neither : (h : HostId) (d : Body) → (Restarted ≡ d → ⊥) → ((r : RevokeOf) → Revoke r ≡ d → ⊥) → SentNow step h d → ⊥
    neither h d p q w = elim (what h d w) [ inl k ↦ p k.1 | inr k ↦ q k.0.2 k.3 ]

    revoked : (h : HostId) (r : RevokeOf) → SentNow step h (Revoke r) → (q : Asking) × In q rs × (q.0 ≡ h) × (q.2 ≡ r)
    revoked h r w = elim (what h (Revoke r) w) [
      | inl k ↦ absurd (let p = k.1 in cc)
      | inr k ↦
          (k.0, k.1, k.2, its_ask k.0.2 r k.3)
    ]

    unheard : (h : HostId) (d : Body) → HeardNow step h d → ⊥
    unheard h d w = let p = w.1 in cc

    untaken : (h : HostId) (n : ℕ) (d : Body) → TakenNow past step h n d → ⊥
    untaken h n d t = let p = t.0.1 in cc

    answers : ServerAnswers x.server past step
    answers = record {
      hello_old = λ h w. absurd (unheard h Hello w);
      hello = λ h w. absurd (unheard h Hello w);
      bye = λ h w. absurd (unheard h Bye w);
      late = λ h n p. absurd (cc);
      restarted = λ l h p. absurd (cc);
      restarted_again = λ h p lives never. (
        hail x h,
        in_front (hail x h) (map (hail x) hs) (map (revoke x) rs)
            (to_hails x hs h (all h lives never)),
        refl,
        refl,
      );
      restarted_only = λ h w. elim (what h Restarted w) [
        | inl k ↦ (let p = each h k.0 in (p.0, inr (inr (inr (refl, p.1)))))
        | inr k ↦ absurd (let p = k.3 in cc)
      ];
      gone = λ h n g t. absurd (untaken h n (GiveBack g) t);
      gone_only = λ h n w. absurd (neither h (Gone n) (λ p. cc) (λ r p. cc) w);
      claim_now = λ h n claim took never l have. absurd (z.claims h n claim took never l have);
      claim_again = λ h n claim t. absurd (untaken h n (Reclaim claim) t);
    }

    only_lapse : OnlyAnswers past step
    only_lapse = record {
      bye_only = λ h w. absurd (neither h Bye (λ p. cc) (λ r p. cc) w);
      reclaimed_only = λ h r w. absurd (neither h (Reclaimed r) (λ p. cc) (λ o p. cc) w);
    }

    pub may_lapse : (script : Script) (start : Tree) (steps : List Step) → ServerMay script start x.server steps past
        step
    may_lapse script start steps = record {
      tokens = record {
        writes = tt;
        admits = tt;
        sends = subst (λ (l : List Doing). EachInTurn (ServerTokens x.server) l past) (sym (sending_append
            (map (hail x) hs) (map (revoke x) rs)))
            (in_turn_both (ServerTokens x.server) (sending (map (hail x) hs)) (sending (map (revoke x) rs)) past
            (tokens_hailed past x hs s) (tokens_may_all hailed x rs sh names));
        reserves = reserves_may x.server (appended (sending ms) past);
      };
      no_host = record { causes = (λ p. cc, λ p. cc); does_none = (refl, refl, refl, refl, refl, refl, refl) };
      answers = only_lapse;
      works = record {
        applies = record {
          given = λ h g f. absurd (untaken h f.0.0 (GiveBack g) f.0.1);
          down = λ h f. absurd (unheard h Down f.0);
          else_none = λ a b. refl;
          decided = refl;
          reserves = λ t i. elim i [ ];
        };
        decides = tt;
        sends = subst (λ (l : List Doing). EachInTurn (MaySend x.server (filesets_kept start x.server steps) step) l
            past) (sym (sending_append (map (hail x) hs) (map (revoke x) rs)))
            (in_turn_both (MaySend x.server (filesets_kept start x.server steps) step) (sending (map (hail x) hs))
            (sending (map (revoke x) rs)) past
            (sends_hailed (filesets_kept start x.server steps) step past x hs) (again_all
            (filesets_kept start x.server steps) step refl hailed x rs sh may));
      };
    }

    owed : (t : Token) → IsOwed x.server (after_step step past) t → (r : RevokeOf) × SentNow step t.host (Revoke r)
        × In t.id r.ids
    owed t o =
        let w = stands_lapsed in
        let i = w.tokens.granted_all t (subst (λ (v : ServerId). Granted v (after_step step past) t)
        (sym (server_is_all x rs)) o.granted) in
        let q = named t i (w.stamps.revoked_all t i o.revoked) (elim (cases_Bool
        (is_pinned y.tokens.grants.notes t.id)) [
          | inl e ↦ absurd (o.unpinned (subst (λ (v : ServerId). Pinned v (after_step step past) t)
              (server_is_all x rs) (w.tokens.pinned t i e)))
          | inr e ↦ e
        ]) in (
          q.0.2,
          (
            revoke x q.0,
            in_back (revoke x q.0) (map (hail x) hs) (map (revoke x) rs) (to_revokes rs q.0 q.1),
            q.2,
            refl,
          ),
          q.3,
        )
      where
        to_revokes : (qs : List Asking) (q : Asking) → In q qs → In (revoke x q) (map (revoke x) qs)
        to_revokes [] q i = elim i [ ]
        to_revokes (r ∷ qs) q (inl e) = inl (ap (revoke x) e)
        to_revokes (r ∷ qs) q (inr i) = inr (to_revokes qs q i)

    pub due_lapse : (script : Script) (start : Tree) (steps : List Step) → ServerDue script start x.server steps past
        step
    due_lapse script start steps = record {
      lines = record { bare = λ n p. absurd (cc); restarts = λ n p. absurd (cc) };
      answers = answers;
      decided = record {
        news = λ h n r f. absurd (let p = f.taken.0.1 in cc);
        refused = λ w c refusal waits is so f. elim f [
          | inl r ↦ z.rested w waits r
          | inr g ↦
              (let p = g.1.taken.0.1 in cc)
        ];
        effects = λ w c waits is effect accepted r. z.rested w waits r;
        pinned = λ w c waits is row accepted r. z.rested w waits (inr r);
      };
      sent = record {
        once = once_both (map (hail x) hs) (map (revoke x) rs) (once_hailed x hs once) (once_all hailed x rs names)
            (λ m i j. let p = in_hails x hs m i in let q = in_revokes x rs m j in let e : Restarted ≡ Revoke q.0.2 =
            sym (ap (λ (n : Message). n.body) p.2) ∙ ap (λ (n : Message). n.body) q.2 in cc);
        revokes_once = λ h r o i one two a b.
            let p = revoked h r one in
            let q = revoked h o two in
            sym p.3 ∙ apart p.0 q.0 i p.1 q.1 (p.2 ∙ sym q.2) (subst (λ (k : RevokeOf). In i k.ids) (sym p.3) a)
            (subst (λ (k : RevokeOf). In i k.ids) (sym q.3) b) ∙ q.3;
        written = λ w i. elim i [ ];
        repeats = λ h n c d f. absurd (untaken h n (Change c) f);
        dones_only = λ h d w. absurd (neither h (Done d) (λ p. cc) (λ r p. cc) w);
        grants = λ w f waits is g. settled_lapsed.rested w waits (inl g);
        uses = λ w f waits is uses accepted g. settled_lapsed.rested w waits (inl g);
        others = λ w f waits is uses accepted row r. settled_lapsed.rested w waits r;
        enters = λ w f waits is enter accepted g. settled_lapsed.rested w waits (inl g);
        revokes = settled_lapsed.asked;
        revokes_again = λ t p o. owed t o;
      };
    }

    pub meets_lapse : (script : Script) (start : Tree) (steps : List Step) → ServerMeets script start x.server steps
        past step
    meets_lapse script start steps = record { may = may_lapse script start steps; due = due_lapse script start steps }
