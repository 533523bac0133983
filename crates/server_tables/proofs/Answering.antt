-- A Change that waits is answered without being written down: its lock or open is granted, it begins anew, or the
-- fileset that it enters is told.
use Rattle.std.proofs.Common.{List, Option, Some, [], ap, arith, eq-eqb, inl, inr, map, not, refl, subst}
use Rattle.std.proofs.Common.{suc, sym, true, zero, ℕ, ◌<◌, ◌&&◌, ◌+◌, ◌==◌, ◌∙◌, ◌∷◌, ◌≡◌, ◌≤◌, ◌⊎◌}
use Rattle.std.proofs.lemmas.Bool.{and_from, cases_Bool, eqb-true, false≢true}
use Rattle.base_types.specs.declared.ids.Fid.{Fid}
use Rattle.base_types.specs.declared.ids.FilesetId.{FilesetId}
use Rattle.base_types.specs.declared.ids.HostId.{HostId}
use Rattle.tree_answers.specs.declared.tree.Tree.{Tree}
use Rattle.token_manager.specs.Grants.{with_grant}
use Rattle.token_manager.specs.declared.want.Want.{Want as WantOf}
use Rattle.token_table.specs.Tables.{next_tokens}
use Rattle.token_types.specs.Conflicts.{any_conflict, blocks, conflict, need_of, needs_conflict}
use Rattle.token_types.specs.declared.token.Need.{Need}
use Rattle.token_types.specs.declared.token.Token.{Token}
use Rattle.token_types.specs.declared.token.TokenId.{TokenId}
use Rattle.token_types.proofs.Symmetric.{conflict_both}
use Rattle.message_types.specs.declared.asking.Change.{Change as ChangeOf}
use Rattle.message_types.specs.declared.message.Body.TheVariants.{Change, Done}
use Rattle.message_types.specs.declared.telling.Bring.{Bring}
use Rattle.message_types.specs.declared.telling.Done.{Done as DoneOf}
use Rattle.run_rules.specs.Doings.{BringsTokens, Doing, GivesUp, Granted, Here, IsDurable, IsLive, NoGrace, SentTo}
use Rattle.message_types.specs.declared.telling.DoneIs.TheVariants.{Granted as IsGranted}
use Rattle.run_rules.specs.Doings.{TookNow, WasWritten}
use Rattle.run_rules.specs.Doings.{UsesStamp, epoch}
use Rattle.run_rules.specs.Doings.Doing.{Sent}
use Rattle.run_rules.specs.Past.{In}
use Rattle.run_rules.specs.ServerDecides.{IsAskedHere, IsDecidedHere, IsMeantSo}
use Rattle.run_rules.specs.ServerMay.{AnsweredSo, AnswersSo, DoneFor, MaySend}
use Rattle.run_rules.specs.ServerMay.DoneFor.{Answered as IsAnswer}
use Rattle.run_rules.specs.ServerTokens.{AskedChange, MayBring, ServerTokens}
use Rattle.run_rules.specs.Wants.{CanGrant, CannotBothWait, Decides, IsQueued, asker, body_of}
use Rattle.run_rules.specs.declared.applied.Request.{Request}
use Rattle.run_rules.specs.declared.applied.Request.TheVariants.{Change as Changes, Fetch as Asks}
use Rattle.run_rules.specs.declared.applied.Wanted.{Wanted}
use Rattle.run_rules.specs.declared.applied.Written.{Written}
use Rattle.run_rules.specs.declared.step.Step.{Step}
use Rattle.server_tables.specs.declared.pending.Pending.{Pending}
use Rattle.server_tables.specs.declared.tables.LastChange.{LastChange}
use Rattle.server_tables.specs.declared.tables.Tables.{Tables}
use Rattle.server_tables.specs.Standing.{ChangesStand, IsLastChange, Stands, WroteThis, want_for}
use Rattle.server_tables.proofs.Changing.{IsRenewed}
use Rattle.server_tables.proofs.Granting.{IsFor, are_for, one_number, stamps_sent, tokens_sent}
use Rattle.server_tables.proofs.Queueing.{told_back, told_hosts, told_out, wants_left}
use Rattle.server_tables.proofs.Serving.{IsLess}
use Rattle.server_tables.proofs.Settling.{both, in_any}
use Rattle.server_tables.proofs.Still.{ClaimsStill, HostsStill, TokensStill, gives_still, hosts_still, over_still}
use Rattle.server_tables.proofs.Still.{decided_home, recovery_still, stamps_still, tokens_still}

same_host : (a b : HostId) → (a.0 == b.0) ≡ true → a ≡ b
same_host a b e = let q : a.0 ≡ b.0 = eqb-true a.0 b.0 e in λ i. record { 0 = q i }

pub same_fileset : (a b : FilesetId) → (a.0 == b.0) ≡ true → a ≡ b
same_fileset a b e = let q : a.0 ≡ b.0 = eqb-true a.0 b.0 e in λ i. record { 0 = q i }

below_or : (a b : ℕ) → (a < b) ⊎ (b ≤ a)
below_or zero zero = inr (omega arith)
below_or zero (suc b) = inl (omega arith)
below_or (suc a) zero = inr (omega arith)
below_or (suc a) (suc b) = elim (below_or a b) [ inl l ↦ inl (omega (arith, l)) | inr l ↦ inr (omega (arith, l)) ]

was_written : (acts : List Doing) (o : Written) → WroteThis acts o → (h : HostId) (f : FilesetId) → o.answer.host ≡ h
    → o.fileset ≡ f → WasWritten acts h f o.number
was_written [] o t h f p q = elim t [ ]
was_written (a ∷ acts) o (inl e) h f p q = inl (o, e, p, q, refl)
was_written (a ∷ acts) o (inr t) h f p q = inr (was_written acts o t h f p q)

-- what was written down last stays so in the renewed answer
pub record StaysWritten (changes : List LastChange) (h : HostId) (f : FilesetId)
    (written : Option Written) : Type 0 where
  pub some : (o : Written) → written ≡ Some o
      → (l : LastChange) × In l changes × (l.host ≡ h) × (l.fileset ≡ f) × (l.written ≡ Some o)
  pub all : (l : LastChange) → In l changes → l.host ≡ h → l.fileset ≡ f → l.written ≡ written

-- `w` waits for the Change `c`, and this Done of its number is sent, out of a grace period
module _ (past : List Doing) (x : Tables) (z : Stands past x) (w : Wanted) (waits : IsQueued past w) (c : ChangeOf)
    (is : w.request ≡ Changes c) (over : NoGrace past) (d : DoneOf) (fileset_is : d.fileset ≡ c.fileset)
    (number_is : d.bring.number ≡ c.number) where
  abbrev pub told : Doing
  told = Sent w.host x.hosts.epoch w.moves (Done d)

  abbrev pub after : List Doing
  after = told ∷ past

  its_done : (h : HostId) (e n : ℕ) (o : DoneOf) → told ≡ Sent h e n (Done o) → d ≡ o
  its_done h e n o p = cc

  one_bring : (h : HostId) (e n : ℕ) (b : Bring) → BringsTokens told h e n b → b ≡ d.bring
  one_bring h e n b (inl q) = absurd (let r = q.1 in cc)
  one_bring h e n b (inr q) = sym q.2 ∙ ap (λ (o : DoneOf). o.bring) (sym (its_done h e n q.0 q.1))

  does : Decides told w.host w.request
  does = subst (Decides told w.host) (sym is)
      (inr (x.hosts.epoch, w.moves, d, refl, fileset_is, number_is))

  decides_it : (h : HostId) (r : Request) → Decides told h r → (h ≡ w.host) × CannotBothWait w.request r
  decides_it h (Asks f) o = absurd (let q = o.3 in cc)
  decides_it h (Changes f) (inl o) = absurd (let q = o.1 in cc)
  decides_it h (Changes f) (inr o) =
      let e = its_done h o.0 o.1 o.2 o.3 in (
        (let q = o.3 in cc),
        subst (λ (r : Request). CannotBothWait r (Changes f)) (sym is)
            (sym fileset_is ∙ (ap (λ (i : DoneOf). i.fileset) e ∙ o.4)),
      )

  hosts_told : HostsStill past told
  hosts_told = told_hosts past x.server x.next x.pending z.wants w waits x.hosts.epoch w.moves (Done d)
      z.hosts.epoch_is does decides_it

  claims_told : ClaimsStill x.server past told
  claims_told = record { gives = λ h f g p. let q = p.2.0 in cc; claims = λ h n o p. let q = p.0 in cc }

  names_none : (k : HostId) (i : TokenId) → GivesUp x.server past told k i → ⊥
  names_none k i o = elim o [ inl q ↦ (let r = q.1.2.0 in cc) | inr q ↦ (let r = q.1.2.0 in cc) ]

  back : (u : Wanted) → IsQueued after u → IsQueued past u
  back = told_back past x.server x.next x.pending z.wants w waits x.hosts.epoch w.moves (Done d) z.hosts.epoch_is does
      decides_it

  out : IsQueued after w → ⊥
  out = told_out past x.server x.next x.pending z.wants w waits x.hosts.epoch w.moves (Done d) z.hosts.epoch_is does
      decides_it

  live_w : IsLive past w.host
  live_w = z.wants.live w waits

  -- # The last answers

  module _ (new : List LastChange) (written : Option Written) (stays : StaysWritten x.changes w.host c.fileset written)
      (renewed : IsRenewed x.changes new (record {
        host = w.host;
        fileset = c.fileset;
        epoch = x.hosts.epoch;
        done = d;
        written = written;
      }))
      -- where it brings a token it says that a use is granted, and brings no other
      (brings : (t : Token) → In t d.bring.tokens → (d.outcome ≡ IsGranted) × (t.id.epoch ≡ x.hosts.epoch)
      × ((u : Token) → In u d.bring.tokens → u ≡ t)) where
    abbrev entry : LastChange
    entry = record { host = w.host; fileset = c.fileset; epoch = x.hosts.epoch; done = d; written = written }

    sent_were : (h : HostId) (e n : ℕ) (o : DoneOf) → SentTo after h e n (Done o)
        → ((h ≡ w.host) × (o ≡ d)) ⊎ SentTo past h e n (Done o)
    sent_were h e n o (inl p) = inl ((let q = p in cc), sym (its_done h e n o p))
    sent_were h e n o (inr p) = inr p

    wrote_were : (o : Written) → WroteThis after o → WroteThis past o
    wrote_were o (inl p) = absurd (cc)
    wrote_were o (inr p) = p

    durable_were : (h : HostId) (f : FilesetId) (n : ℕ) → IsDurable after h f n → IsDurable past h f n
    durable_were h f n (later, le, inl p) = absurd (let q = p.1 in cc)
    durable_were h f n (later, le, inr p) = (later, le, p)

    is_last_entry : IsLastChange after entry
    is_last_entry = record {
      n = w.moves;
      sent = inl refl;
      of = fileset_is;
      top = λ e n o t f. elim (sent_were w.host e n o t) [
        | inl p ↦ (let q : o.bring.number ≡ d.bring.number = ap (λ (y : DoneOf). y.bring.number) p.1 in omega
            (arith, q))
        | inr p ↦ (let l = z.changes.above w c e n o waits is p f in omega (arith, l, number_is))
      ];
      newest = λ n o t f. inl z.hosts.epoch_is;
      wrote = λ o e.
          (let l = stays.some o e in let q = (z.changes.last l.0 l.1).wrote o l.4 in
          (inr q.0, q.1 ∙ l.2, q.2 ∙ l.3));
      wrote_all = λ o t h f.
          (let l = z.changes.answered o (wrote_were o t) in
          let q = (z.changes.last l.0 l.1).wrote_all o (wrote_were o t) (sym l.2) (sym l.3) in
          (q.0, sym (stays.all l.0 l.1 (l.2 ∙ h) (l.3 ∙ f)) ∙ q.1, q.2));
      home = decided_home x.server past c.fileset w.moves z.slots
          (subst (IsAskedHere x.server past w.moves) is (z.wants.here w waits)).0;
      reply = λ o e. elim (below_or o.number c.number) [
        | inl k ↦ inl (omega (arith, k, number_is))
        | inr k ↦
            (let l = stays.some o e in let q = (z.changes.last l.0 l.1).wrote o l.4 in
            let was = was_written past o q.0 w.host c.fileset (q.1 ∙ l.2) (q.2 ∙ l.3) in
            absurd (z.changes.fresh w c waits is (o.number, k, was)))
      ];
      brings = brings;
    }

    is_last_other : (l : LastChange) → IsLastChange past l → (l.host ≡ w.host → l.fileset ≡ c.fileset → ⊥)
        → IsLastChange after l
    is_last_other l k apart = record {
      n = k.n;
      sent = inr k.sent;
      of = k.of;
      top = λ e n o t f. elim (sent_were l.host e n o t) [
        | inl p ↦ absurd (apart p.0 (sym f ∙ ap (λ (q : DoneOf). q.fileset) p.1 ∙ fileset_is))
        | inr p ↦ k.top e n o p f
      ];
      newest = λ n o t f. elim (sent_were l.host (epoch past) n o t) [
        | inl p ↦ absurd (apart p.0 (sym f ∙ ap (λ (q : DoneOf). q.fileset) p.1 ∙ fileset_is))
        | inr p ↦ k.newest n o p f
      ];
      wrote = λ o p. (let q = k.wrote o p in (inr q.0, q.1, q.2));
      wrote_all = λ o t h f. k.wrote_all o (wrote_were o t) h f;
      reply = k.reply;
      brings = k.brings;
      home = k.home;
    }

    found : (l : LastChange) → In l x.changes → (h : HostId) (f : FilesetId) → l.host ≡ h → l.fileset ≡ f
        → (q : LastChange) × In q new × (q.host ≡ h) × (q.fileset ≡ f)
    found l i h f p q = elim (cases_Bool ((l.host.0 == w.host.0) && (l.fileset.0 == c.fileset.0))) [
      | inl same ↦ (let r = both (l.host.0 == w.host.0) (l.fileset.0 == c.fileset.0) same in
          (entry, renewed.has, sym (same_host l.host w.host r.0) ∙ p, sym (same_fileset l.fileset c.fileset r.1) ∙ q))
      | inr no_same ↦ (
        l,
        renewed.all l i (λ h1 f1. false≢true (sym no_same
            ∙ and_from (l.host.0 == w.host.0) (l.fileset.0 == c.fileset.0)
            (eq-eqb l.host.0 w.host.0 (ap (λ (y : HostId). y.0) h1))
            (eq-eqb l.fileset.0 c.fileset.0 (ap (λ (y : FilesetId). y.0) f1)))),
        p,
        q,
      )
    ]

    lone : (u : Wanted) (o : ChangeOf) → IsQueued after u → u.request ≡ Changes o → u.host ≡ w.host
        → o.fileset ≡ c.fileset → ⊥
    lone u o p k h f =
        let same : CannotBothWait u.request w.request =
        subst (λ (r : Request). CannotBothWait u.request r) (sym is)
        (subst (λ (r : Request). CannotBothWait r (Changes c)) (sym k) f) in
        out (subst (IsQueued after) (z.wants.once u w (back u p) waits h same) p)

    pub changes_after : ChangesStand after new
    changes_after = record {
      last = λ l i. elim (renewed.of l i) [
        | inl e ↦ subst (IsLastChange after) (sym e) is_last_entry
        | inr q ↦ is_last_other l (z.changes.last l q.0) q.1
      ];
      last_all = λ h e n o t. elim (sent_were h e n o t) [
        | inl p ↦ (entry, renewed.has, sym p.0, sym (ap (λ (q : DoneOf). q.fileset) p.1 ∙ fileset_is))
        | inr p ↦ (let q = z.changes.last_all h e n o p in found q.0 q.1 h o.fileset q.2 q.3)
      ];
      answered = λ o t. (let q = z.changes.answered o (wrote_were o t) in
          found q.0 q.1 o.answer.host o.fileset q.2 q.3);
      fresh = λ u o p k old. z.changes.fresh u o (back u p) k (durable_were u.host o.fileset o.number old);
      above = λ u o e n r p k t f. elim (sent_were u.host e n r t) [
        | inl q ↦ absurd (lone u o p k q.0 (sym f ∙ ap (λ (y : DoneOf). y.fileset) q.1 ∙ fileset_is))
        | inr q ↦ z.changes.above u o e n r (back u p) k q f
      ];
    }

    -- `qs` are the wants without it, and `left` is the manager's queue
    module _ (qs : List Pending) (less : IsLess x.pending qs w) (left : List WantOf) (queue_is : left ≡ map want_for qs)
      where
        -- # It brings no token

        module _ (empty : d.bring.tokens ≡ []) (no_stamp : d.bring.stamp ≡ 0) where
          no_token : (t : Token) → In t d.bring.tokens → ⊥
          no_token t i = let none : In t [] = subst (In t) empty i in none

          still_tokens : TokensStill x.server past told
          still_tokens = record {
            names = names_none;
            kept = λ k o i q. let r = q.2.0 in cc;
            issues = λ t k i.
                no_token t (subst (In t) (ap (λ (o : Bring). o.tokens) (one_bring i.0 i.1 k.moves i.2 i.3)) i.4);
            reserves = λ t ts q i. absurd (cc);
            revokes = λ k e m r q. cc;
          }

          told_stamp : (i : Fid) (o : ℕ) → UsesStamp told i o → o ≤ x.stamp
          told_stamp i o (inl (k, e, m, b, q, r, t)) =
              let same : b.stamp ≡ d.bring.stamp = ap (λ (y : Bring). y.stamp) (one_bring k e m b q) in
              omega (arith, same, t, no_stamp)
          told_stamp i o (inr r) = absurd (let q = r.4 in cc)

          pub stands_without : Stands after (record x {
            changes = new;
            pending = qs;
            tokens = record x.tokens { queue = left };
          })
          stands_without = record {
            slots = z.slots;
            hosts = hosts_still past told hosts_told z.hosts;
            tokens = tokens_still past told hosts_told.calm x.server still_tokens z.tokens;
            stamps = stamps_still past told hosts_told.calm x.server still_tokens told_stamp z.stamps;
            wants = wants_left past x.server x.next x.pending z.wants w waits x.hosts.epoch w.moves (Done d)
                z.hosts.epoch_is does decides_it qs less.of less.all;
            queue = record {
              calm = λ o. queue_is;
              grace = λ o. absurd (o (over_still past told hosts_told.calm over));
            };
            gives = gives_still past told hosts_told.calm x.server claims_told z.gives;
            changes = changes_after;
            recovery = recovery_still past told hosts_told.calm x.server claims_told names_none z.recovery;
          }

        -- # It brings the tokens of a use; `number` is that of its want

        module _ (number : ℕ) (tokens_are : d.bring.tokens ≡ next_tokens x.tokens.grants.table w.host w.needs)
            (stamp_is : d.bring.stamp ≡ x.stamp + 1) where
          abbrev want : WantOf
          want = record { number = number; host = w.host; needs = w.needs }

          pub stands_with : Stands after (record x {
            changes = new;
            pending = qs;
            stamp = x.stamp + 1;
            tokens = record x.tokens { grants = with_grant x.tokens.grants want; queue = left };
          })
          stands_with = record {
            slots = z.slots;
            hosts = hosts_still past told hosts_told z.hosts;
            tokens = tokens_sent past x.server x.tokens.grants want x.hosts.epoch w.moves (Done d) d.bring tokens_are
                (inr (d, refl, refl)) one_bring (λ r q. cc) z.tokens live_w;
            stamps = stamps_sent past x.server x.tokens.grants want x.hosts.epoch w.moves (Done d) d.bring tokens_are
                (inr (d, refl, refl)) one_bring (λ r q. cc) z.tokens live_w
                x.stamp (x.stamp + 1) (omega (arith, stamp_is)) (omega arith) z.stamps;
            wants = wants_left past x.server x.next x.pending z.wants w waits x.hosts.epoch w.moves (Done d)
                z.hosts.epoch_is does decides_it qs less.of less.all;
            queue = record {
              calm = λ o. queue_is;
              grace = λ o. absurd (o (over_still past told hosts_told.calm over));
            };
            gives = gives_still past told hosts_told.calm x.server claims_told z.gives;
            changes = changes_after;
            recovery = recovery_still past told hosts_told.calm x.server claims_told names_none z.recovery;
          }

  -- # The rules

  words_of : (d.bring.tokens ≡ []) ⊎ (MayBring x.server past w.host w.moves d.bring
      × AskedChange past w.host w.moves d) → ServerTokens x.server past told
  words_of may = record {
    epochs = λ k e m b q. (let r : x.hosts.epoch ≡ e = cc in sym r) ∙ z.hosts.epoch_is;
    grants = λ k e m o q. absurd (cc);
    dones = λ k e m o q.
        (let r = its_done k e m o q in let i : w.host ≡ k = cc in let j : w.moves ≡ m = cc in
        let l : x.hosts.epoch ≡ e = cc in
        subst (λ (y : HostId × ℕ × ℕ × DoneOf). (y.3.bring.tokens ≡ [])
        ⊎ ((MayBring x.server past y.0 y.2 y.3.bring × AskedChange past y.0 y.2 y.3)
        ⊎ (SentTo past y.0 y.1 y.2 (Done y.3) × ((t : Token) → In t y.3.bring.tokens → Granted x.server past t))))
        (λ s. (i s, l s, j s, r s)) (elim may [ inl a ↦ inl a | inr b ↦ inr (inl b) ]));
    revokes = λ k e m r i q. absurd (cc);
    revokes_here = λ k e m r q. absurd (cc);
    stamps = λ k e m o r q. absurd (cc);
    gones = λ k e m o q. absurd (cc);
    reclaimed = λ k e m r o q. absurd (cc);
    left_out = λ k e m r i q. absurd (cc);
    admits = λ k ts q. absurd (cc);
    writes = λ v q. absurd (cc);
    writes_once = λ v q. absurd (cc);
    reserves = λ ts t u q. absurd (cc);
  }

  pub tokens_without : d.bring.tokens ≡ [] → ServerTokens x.server past told
  tokens_without empty = words_of (inl empty)

  -- the tokens of a use, on the file that its host found
  pub tokens_with : CanGrant x.server past w → asker w ≡ w.host → Here x.server past d.bring.fid.fileset w.moves
      → d.fileset ≡ d.bring.fid.fileset → ((need : Need) → In need w.needs → need.fid ≡ d.bring.fid)
      → d.bring.tokens ≡ next_tokens x.tokens.grants.table w.host w.needs → d.bring.stamp ≡ x.stamp + 1
      → ServerTokens x.server past told
  tokens_with can own home under of_file tokens_are stamp_is =
      words_of (inr (may_bring, (c, took, sym number_is, sym fileset_is, under)))
    where
      took : TookNow past w.host w.moves (Change c)
      took = subst (λ (r : Request). TookNow past w.host w.moves (body_of r)) is (z.wants.took w waits)

      made_for : (t : Token) → In t d.bring.tokens
          → IsFor x.tokens.grants.table.server x.tokens.grants.table.epoch x.tokens.grants.table.last w.host w.needs t
      made_for t i =
          are_for x.tokens.grants.table.server x.tokens.grants.table.epoch x.tokens.grants.table.last w.host w.needs t
          (subst (In t) tokens_are i)

      in_way : (t u : Token) → In t d.bring.tokens → conflict t u ≡ true → blocks (asker w) w.needs u ≡ true
      in_way t u i k =
          let e = both (not (u.host.0 == t.host.0)) (needs_conflict (need_of u) (need_of t)) (conflict_both u t ∙ k) in
          and_from (not (u.host.0 == (asker w).0)) (any_conflict (need_of u) w.needs)
          (subst (λ (o : HostId). not (u.host.0 == o.0) ≡ true) ((made_for t i).host_is ∙ sym own) e.0)
          (in_any (λ other. needs_conflict (need_of u) other) (need_of t) w.needs (made_for t i).need e.1)

      may_bring : MayBring x.server past w.host w.moves d.bring
      may_bring = record {
        over = over;
        live = live_w;
        home = home;
        stamp = (
          omega (arith, stamp_is),
          λ o t.
              (let l = z.stamps.told d.bring.fid o t in omega (arith, l, stamp_is)),
        );
        host_is = λ t i. (made_for t i).host_is;
        file = λ t i. of_file (need_of t) (made_for t i).need;
        id = λ t i. (made_for t i).server_is ∙ z.tokens.server_is;
        now = λ t i. (made_for t i).now_is ∙ z.tokens.epoch_is;
        new = λ t u k i j e.
            (let a = z.tokens.issued u k j e in let b = (made_for t i).above in omega (arith, a, b));
        apart = λ t u i j.
            one_number x.tokens.grants.table.server x.tokens.grants.table.epoch x.tokens.grants.table.last w.host
            w.needs
            t u (subst (In t) tokens_are i) (subst (In u) tokens_are j);
        free = λ t u i o k. can.free u o (in_way t u i k);
      }

  pub answer_may : (tree : Tree) (s : Step) → AnsweredSo x.server tree past w c d → MaySend x.server tree s past told
  answer_may tree s so = record {
    grant_for = λ k e m o q. absurd (cc);
    done_for = λ k e m o q.
        (let r = its_done k e m o q in let i : w.host ≡ k = cc in let j : w.moves ≡ m = cc in
        subst (λ (y : HostId × ℕ × DoneOf). IsLive past y.0 × IsDecidedHere x.server past y.2.fileset y.1
        × DoneFor x.server tree past y.0 y.1 y.2) (λ l. (i l, j l, r l)) (live_w, here, IsAnswer answers));
    revoke_for = λ k e m r i q. absurd (cc);
  }
    where
      here : IsDecidedHere x.server past d.fileset w.moves
      here = subst (λ (f : FilesetId). IsDecidedHere x.server past f w.moves) (sym fileset_is)
          (asked.0)
        where
          asked : IsDecidedHere x.server past c.fileset w.moves × IsMeantSo c
          asked = subst (IsAskedHere x.server past w.moves) is (z.wants.here w waits)

      answers : AnswersSo x.server tree past w.host w.moves d
      answers = record {
        w = w;
        waits = waits;
        change = c;
        request = is;
        host = refl;
        moves = refl;
        fileset = fileset_is;
        number = number_is;
        so = so;
      }
