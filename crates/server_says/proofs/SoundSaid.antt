-- What a server says on its own account is sound where its tables are, and these stay so.
use Rattle.std.proofs.Common.{◌≡◌, ◌∙◌, ◌⊎◌, ◌+◌, ◌/◌, ◌++◌, ◌==◌, ◌&&◌, ◌||◌, Bool, true, false, not}
use Rattle.std.proofs.Common.{List, [], ◌∷◌, Some}
use Rattle.std.proofs.Common.{ℕ, zero, suc, if◌then◌else◌, ap, arith, eqb-true, length, inl, inr, map, refl, subst, sym}
use Rattle.std.specs.List.{filter}
use Rattle.std.proofs.lemmas.Bool.{and_parts}
use Rattle.base_types.specs.declared.ids.HostId.{HostId}
use Rattle.base_types.specs.declared.ids.ServerId.{ServerId}
use Rattle.tree_calls.specs.declared.reply.Reply.{Reply}
use Rattle.tree_calls.specs.declared.roster.Roster.{Roster}
use Rattle.token_types.specs.declared.token.Need.{Need}
use Rattle.token_types.specs.declared.token.Token.{Token}
use Rattle.token_types.specs.declared.token.TokenId.{TokenId}
use Rattle.token_table.specs.Marks.{is_pinned}
use Rattle.token_table.specs.Tables.{has_id, names_file, near, of_file, of_host}
use Rattle.token_types.specs.Conflicts.{blocks}
use Rattle.base_types.specs.Ids.{same_fid}
use Rattle.token_manager.specs.Grants.{asked_back, blocks_any, is_own, to_revoke, wanted_for, wanted_from}
use Rattle.token_manager.specs.Managers.{Manager, after_revoked, wanted}
use Rattle.token_manager.specs.declared.grants.Grants.{Grants}
use Rattle.token_manager.specs.declared.want.Want.{Want}
use Rattle.token_manager.specs.declared.want.Wanted.{Wanted}
use Rattle.message_types.specs.Soundness.{Each, IsReply, IsSound, IsToken}
use Rattle.message_types.specs.declared.asking.Change.{Change as ChangeOf}
use Rattle.message_types.specs.declared.giving.Outstanding.{Outstanding}
use Rattle.message_types.specs.declared.giving.Reclaimed.{Reclaimed as ReclaimedOf}
use Rattle.message_types.specs.declared.message.Body.TheVariants.{Done, Reclaim, Reclaimed, Restarted, Revoke}
use Rattle.message_types.specs.declared.telling.DoneIs.TheVariants.{Reply as Replied}
use Rattle.run_rules.specs.declared.applied.Applied.TheVariants.{Done as IsWritten}
use Rattle.server_tables.specs.Claims.{answered_so, names}
use Rattle.server_tables.specs.Judging.{gave_up, has_all, is_here}
use Rattle.server_tables.specs.Places.{is_of}
use Rattle.server_tables.specs.Sound.{AreSaid, AreSound, CanBeAsked, CanHear, IsSaid, to_server}
use Rattle.server_tables.specs.Steps.{to_host}
use Rattle.server_tables.specs.Updates.{begun, reclaimed_by}
use Rattle.server_tables.specs.declared.recovering.Answered.{Answered}
use Rattle.server_tables.specs.declared.recovering.Claimed.{Claimed}
use Rattle.server_tables.specs.declared.tables.Tables.{Tables}
use Rattle.server_tables.proofs.Again.{same_host}
use Rattle.server_tables.proofs.Eaches.{each_end, each_filter, each_flat, each_joined, each_map, found_so, of_each}
use Rattle.server_tables.proofs.Eaches.{to_each}
use Rattle.server_tables.proofs.Settling.{any_in}
use Rattle.server_tables.proofs.SoundAgain.{without_sound}
use Rattle.server_tables.proofs.SoundTables.{GrantsOf, begun_sound, claims_so, grants_sound, heard_from, is_said}
use Rattle.server_tables.proofs.SoundTables.{reclaimed_sound, renewed_sound, restarted_sound, with_grants, word_sound}
use Rattle.server_takes.specs.Drafts.{applying, no_draft, word}
use Rattle.server_takes.specs.Taking.{Made, made}
use Rattle.server_takes.specs.declared.draft.Draft.{Draft}
use Rattle.server_takes.proofs.SoundTaken.{GoesOn, said_word}
use Rattle.server_says.specs.Claiming.{AdmitsOne, AreAnswers, admitting, all_answered}
use Rattle.server_says.specs.Claiming.{answer_of, answering, is_claimed, pick, picked, telling, to_admit}
use Rattle.server_says.specs.Claiming.{with_claim}
use Rattle.server_says.specs.Hailing.{hail, hailing, needs_hail, restarting, to_hail}
use Rattle.server_says.specs.Revoking.{Asking, all_revoked, asked, asked_all, asking_back, asking_of, askings}
use Rattle.server_says.specs.Revoking.{askings_for}
use Rattle.server_says.specs.Revoking.{ids_beside, is_beside, is_owed, lapse_step, lapsing, not_asked, not_beside, owed}
use Rattle.server_says.specs.Revoking.{owed_by, revoking}
use Rattle.server_says.specs.Running.{GoesTo, IsChain}
use Rattle.server_says.specs.Writing.{done_of, written_made, written_of}

-- one after the other
pub goes_then : (x y z : Tables) (d e f : Draft) (s : AreSound x) (a : GoesOn x d s y e) → GoesOn y e a.sound z f
    → GoesOn x d s z f
goes_then x y z d e f s a b = record {
  server = b.server ∙ a.server;
  roster = b.roster ∙ a.roster;
  sound = b.sound;
  said = λ said. subst (λ (r : Roster). AreSaid x.server r f.sent) a.roster
      (subst (λ (v : ServerId). AreSaid v y.roster f.sent) a.server
      (b.said (subst (λ (r : Roster). AreSaid y.server r e.sent) (sym a.roster)
      (subst (λ (v : ServerId). AreSaid v x.roster e.sent) (sym a.server) (a.said said)))));
}

-- # Hosts that are told of a restart

pub hail_said : (x : Tables) → AreSound x → (d : Draft) → AreSaid x.server x.roster d.sent
    → AreSaid x.server x.roster (hailing x d).sent
hail_said x s d a =
    each_joined (IsSaid x.server x.roster) d.sent (map (hail x) (to_hail x)) a
    (each_map (CanHear x.server x.roster) (IsSaid x.server x.roster) (hail x) (to_hail x)
    (λ h c. is_said x.server x.roster h x.hosts.epoch Restarted (restarted_sound x.server x.roster h x.hosts.epoch c))
    (each_filter (CanHear x.server x.roster) (needs_hail x) x.hosts.listed s.listed))

pub restart_said : (x : Tables) → AreSound x → (line : ℕ) → AreSaid x.server x.roster (restarting x line).sent
restart_said x s line = hail_said (begun x) (begun_sound x s) no_draft tt

-- # Tokens that are asked back

module _ (x : Tables) (s : AreSound x) where
  abbrev AskedSo : Token → Type 0
  AskedSo t = CanBeAsked x.server x.roster t

  abbrev AsksSo : Asking → Type 0
  AsksSo a = IsSound x.roster (revoking x a)

  ids_issued : (first : Token) (ts : List Token) → Each AskedSo ts
      → Each (λ (id : TokenId). id.server ≡ x.server) (ids_beside first ts)
  ids_issued first ts e =
      each_map AskedSo (λ (id : TokenId). id.server ≡ x.server) (λ (t : Token). t.id) (filter (is_beside first) ts)
      (λ t c. c.issued) (each_filter AskedSo (is_beside first) ts e)

  one_asks : (stamp : ℕ) (t : Token) (ts : List Token) → AskedSo t → Each AskedSo ts → AsksSo (asking_of stamp t ts)
  one_asks stamp t ts c e =
      word_sound x.server x.roster t.host x.hosts.epoch c.hears (Revoke (asking_of stamp t ts).revoke) refl tt (record {
        stamp = omega (arith);
        named = record {
          home = λ z. eqb-true (t.fid.fileset.0 / 65536) x.server.0 c.here;
          issued = ids_issued t ts e;
        };
      })

  all_ask : (n stamp : ℕ) (ts : List Token) → Each AskedSo ts → Each AsksSo (askings_for n stamp ts)
  all_ask zero stamp ts e = tt
  all_ask (suc n) stamp [] e = tt
  all_ask (suc n) stamp (t ∷ ts) e = (
    one_asks stamp t (t ∷ ts) e.0 e,
    all_ask n (stamp + 1) (filter (not_beside t) (t ∷ ts)) (each_filter AskedSo (not_beside t) (t ∷ ts) e),
  )

  -- # Which they are

  of_files : (ts : List Token) (earlier needs : List Need) → Each AskedSo ts → Each AskedSo (near ts earlier needs)
  of_files ts earlier [] e = tt
  of_files ts earlier (need ∷ needs) e =
      each_joined AskedSo (if names_file earlier need.fid then [] else of_file ts need.fid)
      (near ts (earlier ++ need ∷ []) needs) (by (names_file earlier need.fid))
      (of_files ts (earlier ++ need ∷ []) needs e)
    where
      by : (b : Bool) → Each AskedSo (if b then [] else of_file ts need.fid)
      by true = tt
      by false = each_filter AskedSo (λ (t : Token). same_fid t.fid need.fid) ts e

  wanted_of : (g : Grants) (earlier : List Want) (want : Want) → Each AskedSo g.table.tokens
      → Each (λ (w : Wanted). AskedSo w.token) (wanted_for g earlier want)
  wanted_of g earlier want e =
      each_map AskedSo (λ (w : Wanted). AskedSo w.token) (asked_back g.notes) _ (λ t c. c)
      (each_filter AskedSo (λ (t : Token). not (is_own t || blocks_any earlier t)) (to_revoke g want)
      (each_filter AskedSo (λ (t : Token). not (is_pinned g.notes t.id)) _
      (each_filter AskedSo (blocks want.host want.needs) (near g.table.tokens [] want.needs)
      (of_files g.table.tokens [] want.needs e))))

  wanted_all : (g : Grants) (earlier queue : List Want) → Each AskedSo g.table.tokens
      → Each (λ (w : Wanted). AskedSo w.token) (wanted_from g earlier queue)
  wanted_all g earlier [] e = tt
  wanted_all g earlier (want ∷ queue) e =
      each_joined (λ (w : Wanted). AskedSo w.token) (wanted_for g earlier want)
      (wanted_from g (earlier ++ want ∷ []) queue) (wanted_of g earlier want e)
      (wanted_all g (earlier ++ want ∷ []) queue e)

  -- what is in the way of wants
  pub not_asked_sound : Each (CanBeAsked x.server x.roster) (not_asked (wanted x.tokens))
  not_asked_sound =
      each_map (λ (w : Wanted). AskedSo w.token) AskedSo (λ (w : Wanted). w.token)
      (filter (λ (w : Wanted). not w.revoked) (wanted x.tokens)) (λ w c. c)
      (each_filter (λ (w : Wanted). AskedSo w.token) (λ (w : Wanted). not w.revoked) (wanted x.tokens)
      (wanted_all x.tokens.grants [] x.tokens.queue s.tokens))

  -- what was asked back before
  pub owed_sound : Each (CanBeAsked x.server x.roster) (owed x)
  owed_sound = each_flat AskedSo (owed_by x.tokens) x.hosts.listed
      (λ h. each_filter AskedSo (is_owed x.tokens) (of_host x.tokens.grants.table.tokens h)
      (each_filter AskedSo (λ (t : Token). t.host.0 == h.0) x.tokens.grants.table.tokens s.tokens))

  revoked_of : (m : Manager) (ids : List TokenId) → GrantsOf x m.grants → GrantsOf x (all_revoked m ids).grants
  revoked_of m [] g = g
  revoked_of m (id ∷ ids) g = revoked_of (after_revoked m id) ids (record { epoch = g.epoch; tokens = g.tokens })

-- the tables once tokens were asked back
record IsBack (x y : Tables) : Type 0 where
  pub server : y.server ≡ x.server
  pub roster : y.roster ≡ x.roster
  pub sound : AreSound y

all_back : (x : Tables) → AreSound x → (many : List Asking) → IsBack x (asked_all x many)
all_back x s [] = record { server = refl; roster = refl; sound = s }
all_back x s (a ∷ many) =
    let r = all_back (asked x a.revoke) (with_grants x s (all_revoked x.tokens a.revoke.ids) x.pending x.next
    (x.stamp + 1) (revoked_of x s x.tokens a.revoke.ids (grants_sound x s))) many in
    record { server = r.server; roster = r.roster; sound = r.sound }

-- tokens of which it may ask are asked back
pub back_goes : (x : Tables) (d : Draft) (s : AreSound x) (ts : List Token)
    → Each (CanBeAsked x.server x.roster) ts → GoesOn x d s (asking_back x d ts).tables (asking_back x d ts).draft
back_goes x d s ts e =
    let r = all_back x s (askings x.stamp ts) in
    record {
      server = r.server;
      roster = r.roster;
      sound = r.sound;
      said = λ a. each_joined (IsSaid x.server x.roster) d.sent (map (revoking x) (askings x.stamp ts)) a
          (each_map (λ (q : Asking). IsSound x.roster (revoking x q)) (IsSaid x.server x.roster) (revoking x)
          (askings x.stamp ts) (λ q w. is_said x.server x.roster q.host x.hosts.epoch (Revoke q.revoke) w)
          (all_ask x s (length ts) x.stamp ts e));
    }

-- what is in the way of wants is asked back
pub asks_goes : (x : Tables) (d : Draft) (s : AreSound x)
    → GoesOn x d s (asking_back x d (not_asked (wanted x.tokens))).tables
    (asking_back x d (not_asked (wanted x.tokens))).draft
asks_goes x d s = back_goes x d s (not_asked (wanted x.tokens)) (not_asked_sound x s)

pub lapse_sound : (x : Tables) → AreSound x → AreSound (lapsing x).tables
lapse_sound x s = (back_goes x (hailing x no_draft) s (owed x) (owed_sound x s)).sound

pub lapse_said : (x : Tables) → AreSound x → AreSaid x.server x.roster (lapse_step x).sent
lapse_said x s = (back_goes x (hailing x no_draft) s (owed x) (owed_sound x s)).said (hail_said x s no_draft tt)

-- # A Change that is written down

pub written_goes : (x : Tables) (d : Draft) (s : AreSound x) (host : HostId) (change : ChangeOf) (reply : Reply)
    → CanHear x.server x.roster host → (change.fileset.0 ≡ 0) ⊎ (change.fileset.0 / 65536 ≡ x.server.0)
    → IsReply reply
    → GoesOn x d s (written_made x d host change reply).tables (written_made x d host change reply).draft
written_goes x d s host change reply c here r = record {
  server = refl;
  roster = refl;
  sound = renewed_sound x s host (done_of change reply) (Some (written_of host change reply)) its;
  said = λ a. said_word x (applying d (IsWritten (written_of host change reply))) host
      (Done (done_of change reply)) a its;
}
  where
    its : IsSound x.roster (word x host (Done (done_of change reply)))
    its = without_sound x host c x.hosts.epoch change.fileset (Replied reply) change.number (elim here [
      | inl z ↦ inl z
      | inr z ↦ inr (λ q. z)
    ]) r

-- # Claims that are granted

module _ (x : Tables) (s : AreSound x) where
  abbrev ClaimsSo : Claimed → Type 0
  ClaimsSo c = IsSound x.roster (to_server x.server c.host x.hosts.epoch (Reclaim c.claim))

  module _ (c : Claimed) (k : ClaimsSo c) where
    -- a token that is granted again
    again_so : (t : Token) → t.host ≡ c.host → t.id.server ≡ x.server → is_claimed x c t ≡ true
        → CanBeAsked x.server x.roster t
    again_so t host server p =
        let q = and_parts (not (has_id x.tokens.grants.table.tokens t.id))
        (names c.claim x.server t.fid.fileset && not (gave_up x.recovering.given_up c.host t.id)) p in
        let r = and_parts (names c.claim x.server t.fid.fileset)
        (not (gave_up x.recovering.given_up c.host t.id)) q.1 in
        let o = any_in (λ (out : Outstanding). (out.fileset.0 == t.fid.fileset.0) && is_here x.server out)
        c.claim.numbers r.0 in
        let u = and_parts (o.0.fileset.0 == t.fid.fileset.0) (is_here x.server o.0) o.2 in
        let v = and_parts (o.0.moves == 0) (is_of x.server o.0.fileset) u.1 in
        record {
          hears = subst (CanHear x.server x.roster) (sym host)
              (heard_from x.server x.roster c.host x.hosts.epoch (Reclaim c.claim) k);
          issued = server;
          here = ap (λ (n : ℕ). (n / 65536) == x.server.0)
              (sym (eqb-true o.0.fileset.0 t.fid.fileset.0 u.0)) ∙ v.1;
        }

    one_picked : (so_far : List Token) (t : Token) → t.host ≡ c.host → t.id.server ≡ x.server
        → Each (CanBeAsked x.server x.roster) so_far
        → Each (CanBeAsked x.server x.roster) (pick (is_claimed x c) so_far t)
    unfolding pick
    one_picked so_far t host server e = by (is_claimed x c t && not (has_id so_far t.id)) refl
      where
        by : (b : Bool) → (is_claimed x c t && not (has_id so_far t.id)) ≡ b
            → Each (CanBeAsked x.server x.roster) (if b then so_far ++ t ∷ [] else so_far)
        by true q = each_end (CanBeAsked x.server x.roster) so_far t e
            (again_so t host server (and_parts (is_claimed x c t) (not (has_id so_far t.id)) q).0)
        by false q = e

    all_picked : (so_far ts : List Token)
        → Each (IsToken (to_server x.server c.host x.hosts.epoch (Reclaim c.claim))) ts
        → Each (CanBeAsked x.server x.roster) so_far
        → Each (CanBeAsked x.server x.roster) (picked (is_claimed x c) so_far ts)
    all_picked so_far [] i e = e
    all_picked so_far (t ∷ ts) i e =
        all_picked (pick (is_claimed x c) so_far t) ts i.1 (one_picked so_far t i.0.host i.0.server e)

    admit_so : Each (CanBeAsked x.server x.roster) (to_admit x c)
    admit_so = all_picked [] c.claim.tokens k.body.tokens tt

    -- what is answered to it
    answer_so : IsSound x.roster (word x c.host (Reclaimed (answer_of x.recovering c.host c.claim)))
    answer_so = word_sound x.server x.roster c.host x.hosts.epoch
        (heard_from x.server x.roster c.host x.hosts.epoch (Reclaim c.claim) k)
        (Reclaimed (answer_of x.recovering c.host c.claim)) refl refl
        (each_map (IsToken (to_server x.server c.host x.hosts.epoch (Reclaim c.claim)))
        (λ (id : TokenId). id.server ≡ x.server) (λ (t : Token). t.id)
        (filter (λ (t : Token). gave_up x.recovering.given_up c.host t.id) c.claim.tokens) (λ t i. i.server)
        (each_filter _ (λ (t : Token). gave_up x.recovering.given_up c.host t.id) c.claim.tokens k.body.tokens))

  module _ (host : HostId) (answers : List ReclaimedOf)
      (are : AreAnswers x host x.recovering.claims answers) where
    abbrev Answers : ReclaimedOf → Type 0
    Answers a = IsSound x.roster (word x host (Reclaimed a))

    all_answers : Each Answers answers
    all_answers = to_each Answers answers (λ a i.
        let o = are.of a i in
        let k = of_each ClaimsSo x.recovering.claims s.claims o.0 o.1 in
        let own = same_host o.0.host host
        (and_parts (o.0.host.0 == host.0) (has_all x.recovering.taken x.server host o.0.claim) o.2).0 in
        subst Answers o.3 (subst (λ (h : HostId).
        IsSound x.roster (word x h (Reclaimed (answer_of x.recovering h o.0.claim)))) own (answer_so o.0 k)))

    told_all : (d : Draft) → AreSaid x.server x.roster d.sent
        → AreSaid x.server x.roster (telling x d host answers).sent
    told_all d a =
        each_joined (IsSaid x.server x.roster) d.sent (map (λ r. word x host (Reclaimed r)) answers) a
        (each_map Answers (IsSaid x.server x.roster) (λ r. word x host (Reclaimed r)) answers
        (λ r w. is_said x.server x.roster host x.hosts.epoch (Reclaimed r) w) all_answers)

    abbrev AnsweredSo : Answered → Type 0
    AnsweredSo a = IsSound x.roster (to_host x.server a.host x.hosts.epoch 0 (Reclaimed a.answer))

    noted_so : (noted : List Answered) (rs : List ReclaimedOf) → Each AnsweredSo noted → Each Answers rs
        → Each AnsweredSo (all_answered noted host rs)
    noted_so noted [] n e = n
    noted_so noted (r ∷ rs) n e =
        noted_so (answered_so noted host r) rs
        (each_end AnsweredSo (filter (λ (a : Answered). not (a.host.0 == host.0)) noted)
        (record { host = host; answer = r })
        (each_filter AnsweredSo (λ (a : Answered). not (a.host.0 == host.0)) noted n) e.0) e.1

    -- the tables with these tokens and answers
    granted_so : (ts : List Token) → Each (CanBeAsked x.server x.roster) ts
        → AreSound (answering (with_claim x ts) host answers)
    granted_so ts e =
        let g = claims_so (CanBeAsked x.server x.roster) x.hosts.epoch x.tokens.grants ts (grants_sound x s) e in
        record {
          epoch = g.epoch;
          listed = s.listed;
          tokens = g.tokens;
          changes = s.changes;
          claims = s.claims;
          answers = noted_so x.recovering.answers answers s.answers all_answers;
        }

-- a claim is granted
pub admits_goes : (a b : Made) (s : AreSound a.tables) → AdmitsOne a b → GoesOn a.tables a.draft s b.tables b.draft
admits_goes a b s one =
    let x = a.tables in
    let host = one.admission.host in
    let its = one.so in
    let f = found_so (λ (c : Claimed). IsSound x.roster (to_server x.server c.host x.hosts.epoch (Reclaim c.claim)))
    (λ (c : Claimed). has_all x.recovering.taken x.server c.host c.claim) x.recovering.claims s.claims
    one.next.claimed one.next.ripe in
    let tokens = subst (Each (CanBeAsked x.server x.roster)) (sym one.next.tokens)
    (admit_so x s one.next.claimed f.0) in
    subst (λ (y : Tables). GoesOn x a.draft s y b.draft) (sym its.tables)
    (subst (GoesOn x a.draft s (reclaimed_by (answering (with_claim x one.admission.tokens) host its.answers) host))
    (sym its.draft) (record {
      server = refl;
      roster = refl;
      sound = reclaimed_sound (answering (with_claim x one.admission.tokens) host its.answers)
          (granted_so x s host its.answers its.are one.admission.tokens tokens) host;
      said = told_all x s host its.answers its.are
          (admitting a.draft (record { host = host; tokens = one.admission.tokens }));
    }))

-- claims are granted one after the other
chain_goes : (a z : Made) (more : List Made) (s : AreSound a.tables) → IsChain AdmitsOne a more z
    → GoesOn a.tables a.draft s z.tables z.draft
chain_goes a z [] s q =
    subst (λ (m : Made). GoesOn a.tables a.draft s m.tables m.draft) q
    (record { server = refl; roster = refl; sound = s; said = λ said. said })
chain_goes a z (b ∷ more) s q =
    let one = admits_goes a b s q.0 in
    goes_then a.tables b.tables z.tables a.draft b.draft z.draft s one (chain_goes b z more one.sound q.1)

pub all_admit_goes : (x y : Tables) (d e : Draft) (s : AreSound x) → GoesTo AdmitsOne (made x d) (made y e)
    → GoesOn x d s y e
all_admit_goes x y d e s q = chain_goes (made x d) (made y e) q.0 s q.1
