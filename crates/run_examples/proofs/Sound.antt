-- The messages of the run are their nodes' own, and sound.
use Rattle.base_types.specs.declared.ids.Fid.{Fid}
use Rattle.base_types.specs.declared.ids.HostId.{HostId}
use Rattle.base_types.specs.declared.ids.Node.{Node}
use Rattle.base_types.specs.declared.ids.Node.TheVariants.{Host, Server}
use Rattle.base_types.specs.declared.ids.ServerId.{ServerId}
use Rattle.base_types.specs.declared.limits.TheConstants.{FILE_BYTES_MAX, OBJECTS_MAX}
use Rattle.tree_calls.specs.declared.call.Call.{Call}
use Rattle.tree_calls.specs.declared.call.Call.TheVariants.{Lock}
use Rattle.tree_calls.specs.declared.part.Status.{Status as StatusOf}
use Rattle.message_types.specs.Soundness.{AreFileBytes, AreNamed, Each, Goes, HasMoves, HasRoom, IsBody, IsBrought}
use Rattle.message_types.specs.Soundness.{IsCall, IsEnd, IsHome, IsServer, IsSound, IsToken, NamesRise}
use Rattle.message_types.specs.declared.giving.Ends.{Ends as EndsOf}
use Rattle.message_types.specs.declared.giving.Give.{Give}
use Rattle.message_types.specs.declared.message.Body.{Body}
use Rattle.message_types.specs.declared.message.Body.TheVariants.{Bye, Change, Done, Fetch, GiveBack, Gone, Grant, Hello}
use Rattle.message_types.specs.declared.message.Body.TheVariants.{Kept, Reclaim, Reclaimed, Restarted, Returned, Revoke}
use Rattle.message_types.specs.declared.message.Direction.TheVariants.{ToHost, ToServer}
use Rattle.message_types.specs.declared.message.Message.{Message}
use Rattle.message_types.specs.declared.telling.Grant.{Grant as GrantOf}
use Rattle.message_types.specs.declared.tokens.Revoke.{Revoke as RevokeOf}
use Rattle.run_examples.proofs.Tests.{ids, tokens}
use Rattle.run_examples.specs.Steps.{all_tokens, at_file, claim, fetch_of, file, file_bytes, file_status, file_update}
use Rattle.run_examples.specs.Steps.{label, locks, other, root_entries, root_status, status_of, writes}
use Rattle.run_examples.proofs.ServerSteps.{file_grant, root_grant, update_grant}
use Rattle.run_examples.specs.Journal.{both, bytes_gift, enter_for, file_needs, kept_lock, length_gift, lock_done}
use Rattle.run_examples.specs.Journal.{lock_for, lock_token, locks_too, of_file, of_file_too, of_root, of_root_too}
use Rattle.run_examples.specs.Journal.{recall_length, recall_lock, refused, root_needs, step_1, step_10, step_11}
use Rattle.run_examples.specs.Journal.{step_12, step_13, step_14, step_15, step_16, step_17, step_18, step_19, step_2}
use Rattle.run_examples.specs.Journal.{step_20, step_21, step_22, step_23, step_24, step_25, step_26, step_27, step_28}
use Rattle.run_examples.specs.Journal.{step_29, step_3, step_30, step_31, step_32, step_33, step_34, step_35, step_36}
use Rattle.run_examples.specs.Journal.{step_37, step_38, step_39, step_4, step_40, step_41, step_42, step_43, step_44}
use Rattle.run_examples.specs.Journal.{step_45, step_46, step_47, step_48, step_49, step_5, step_50, step_51, step_52}
use Rattle.run_examples.specs.Journal.{step_6, step_7, step_8, step_9, their_entries, their_file, their_grant}
use Rattle.run_examples.specs.Journal.{their_root, their_status, unlock_gift, update_needs}
use Rattle.std.proofs.Common.{List, None, Some, [], ap, arith, false, inl, inr, length, refl, subst, sym, true, ℕ}
use Rattle.std.proofs.Common.{◌<◌, ◌∙◌, ◌∷◌, ◌≡◌, ◌≤◌}
use Rattle.std.specs.Prelude.{IfSome, codes, if◌then◌else◌, ◌/◌}
use Rattle.token_types.specs.declared.token.Token.{Token}
use Rattle.token_types.specs.declared.token.TokenId.{TokenId}
use Rattle.run_tokens.proofs.Plain.{few}
use Rattle.run_rules.specs.Messages.{home}
use Rattle.run_rules.specs.Past.{In}
use Rattle.run_rules.specs.Runs.{IsFrom}
use Rattle.run_rules.specs.Tokens.{number_of}
use Rattle.run_tokens.specs.Worked.{client, entered, root, site_one, welcome}

one_site : IsServer both site_one
one_site = record { first = omega arith; last = omega arith }

abbrev asked : HostId → ℕ → Body → Message
asked host e b = record { direction = ToServer; host = host; server = site_one; epoch = e; moves = 0; body = b }

abbrev told_to : HostId → ℕ → Body → Message
told_to host e b = record { direction = ToHost; host = host; server = site_one; epoch = e; moves = 0; body = b }

ask : (host : HostId) (e : ℕ) (b : Body) → host.0 ≤ 2 → Goes b ToServer → HasMoves b 0 → IsBody both (asked host e b) b
    → IsFrom (Host host) (asked host e b) × IsSound both (asked host e b)
ask host e b h way moves body = (
  (refl, refl),
  record { host = h; server = one_site; way = way; apart = λ p. absurd (cc); moves = moves; body = body },
)

tell : (host : HostId) (e : ℕ) (b : Body) → host.0 ≤ 2 → Goes b ToHost → HasMoves b 0 → IsBody both (told_to host e b) b
    → IsFrom (Server site_one) (told_to host e b) × IsSound both (told_to host e b)
tell host e b h way moves body = (
  (refl, refl),
  record { host = h; server = one_site; way = way; apart = λ p. absurd (cc); moves = moves; body = body },
)

first_host : client.0 ≤ 2
first_host = omega arith

second_host : other.0 ≤ 2
second_host = omega arith

-- calls
writes_call : IsCall both writes
writes_call = record { servers = (one_site, tt); paths = (omega arith, tt); objects = refl; groups = tt; bytes = omega arith }

lock_call : (label : List ℕ) → IsCall both (Lock label at_file true 0 10)
lock_call label = record { servers = (one_site, tt); paths = (omega arith, tt); objects = refl; groups = tt; bytes = tt }

-- requests
enter_body : (host : HostId) (e : ℕ) (call : Call) → IsCall both call
    → IsBody both (asked host e (Change (enter_for call))) (Change (enter_for call))
enter_body host e call is = record { number = omega arith; fileset = inl refl; call = is; decided = inl refl }

lock_body : (host : HostId) (k : ℕ) (label : List ℕ)
    → IsBody both (asked host 2 (Change (lock_for k (Lock label at_file true 0 10))))
    (Change (lock_for k (Lock label at_file true 0 10)))
lock_body host k label = record { number = omega arith; fileset = inr (λ p. refl); call = lock_call label; decided = inr tt }

some_root : 0 < 65536
some_root = omega arith

root_body : (host : HostId) (e : ℕ) → IsBody both (asked host e (Fetch (fetch_of 1 root root_needs)))
    (Fetch (fetch_of 1 root root_needs))
root_body host e = record {
  number = omega arith;
  home = λ p. refl;
  file = (refl, (refl, tt));
  kinds = (tt, (tt, tt));
  room = (tt, (some_root, tt));
  count = omega arith;
}

file_body : (host : HostId) (e : ℕ) → IsBody both (asked host e (Fetch (fetch_of 2 file file_needs)))
    (Fetch (fetch_of 2 file file_needs))
file_body host e = record { number = omega arith; home = λ p. refl; file = (refl, tt); kinds = (tt, tt); room = (tt, tt); count = omega arith }

update_body : IsBody both (asked client 1 (Fetch (fetch_of 3 file update_needs))) (Fetch (fetch_of 3 file update_needs))
update_body = record {
  number = omega arith;
  home = λ p. refl;
  file = (refl, (refl, tt));
  kinds = (tt, (tt, tt));
  room = (tt, (omega arith, tt));
  count = omega arith;
}

-- answers
no_bytes_told : AreFileBytes []
no_bytes_told = record { ends = tt; order = tt; together = omega arith; count = omega arith }

grant_body : (host : HostId) (e : ℕ) (g : GrantOf) (s : StatusOf) → 1 ≤ g.bring.stamp → g.status ≡ Some s
    → Each (IsBrought (told_to host e (Grant g)) g.bring.fid) g.bring.tokens
    → IsHome (told_to host e (Grant g)) g.bring.fid.fileset → s.length ≤ FILE_BYTES_MAX
    → length s.lists ≡ (if s.dir then 3 else 1) → g.pieces ≡ [] → NamesRise g.entries → length g.entries ≤ OBJECTS_MAX
    → IsBody both (told_to host e (Grant g)) (Grant g)
grant_body host e g s first is tokens home size lists none rise few = record {
  stamp = first;
  brings = record { tokens = tokens; home = λ t ts e. home };
  home = home;
  told = record {
    size = subst (λ o. IfSome o (λ (s : StatusOf). s.length ≤ FILE_BYTES_MAX)) (sym is) size;
    lists = subst (λ o. IfSome o (λ (s : StatusOf). length s.lists ≡ (if s.dir then 3 else 1))) (sym is) lists;
    bytes = subst AreFileBytes (sym none) no_bytes_told;
    order = rise;
    few = few;
    absent = λ e. absurd (let p : Some s ≡ None = sym is ∙ e in cc);
  };
  absent = λ e. absurd (let p : Some s ≡ None = sym is ∙ e in cc);
}

brought : (host : HostId) (e : ℕ) (b : Body) (fid : Fid) (t : Token) → t.host ≡ host → t.id.server ≡ site_one
    → t.id.epoch ≡ e → t.fid ≡ fid → HasRoom t.kind → IsBrought (told_to host e b) fid t
brought host e b fid t h v now f room = record {
  own = record { host = h; server = v; room = room };
  file = f;
  epoch = now;
}

entered_body : (host : HostId) (e : ℕ) → IsBody both (told_to host e (Done entered)) (Done entered)
entered_body host e = record {
  fileset = inl refl;
  outcome = λ p. refl;
  brings = record { tokens = tt; home = λ t ts e. absurd (cc) };
  some = λ t ts e. absurd (cc);
  none = λ e. (refl, refl);
}

locked_body : IsBody both (told_to client 2 (Done lock_done)) (Done lock_done)
locked_body = record {
  fileset = inr (λ p. refl);
  outcome = tt;
  brings = record {
    tokens = (brought client 2 (Done lock_done) file lock_token refl refl refl refl (omega arith), tt);
    home = λ t ts e p. refl;
  };
  some = λ t ts e. omega arith;
  none = λ e. absurd (cc);
}

refused_body : IsBody both (told_to other 2 (Done refused)) (Done refused)
refused_body = record {
  fileset = inr (λ p. refl);
  outcome = tt;
  brings = record { tokens = tt; home = λ t ts e. absurd (cc) };
  some = λ t ts e. absurd (cc);
  none = λ e. (refl, refl);
}

-- give-backs, and the claim
give_body : (g : Give) → 1 ≤ g.number → g.fid ≡ file → AreFileBytes g.pieces → IfSome g.length (λ n. n ≤ FILE_BYTES_MAX)
    → IfSome g.ends (λ (ends : EndsOf). IsEnd ends.call) → Each (λ (id : TokenId). id.server ≡ site_one) g.ids
    → IsBody both (asked client 2 (GiveBack g)) (GiveBack g)
give_body g first f bytes size ends ids = record {
  number = first;
  home = λ p. ap (λ (f : Fid). f.fileset.0 / 65536) f;
  declared = all g.ids ids;
  issued = λ p. ids;
  bytes = bytes;
  size = size;
  ends = ends;
}
  where
    all : (is : List TokenId) → Each (λ (id : TokenId). id.server ≡ site_one) is
        → Each (λ (id : TokenId). IsServer both id.server) is
    all [] e = tt
    all (i ∷ is) e = (subst (IsServer both) (sym e.0) one_site, all is e.1)

two_bytes : AreFileBytes (record { from = 0; bytes = codes "ab" } ∷ [])
two_bytes = record { ends = (omega arith, tt); order = (tt, tt); together = omega arith; count = omega arith }

its : (t : Token) → t.host ≡ client → t.id.server ≡ site_one → HasRoom t.kind
    → IsToken (asked client 2 (Reclaim (claim all_tokens 0))) t
its t h v room = record { host = h; server = v; room = room }

claim_body : IsBody both (asked client 2 (Reclaim (claim all_tokens 0))) (Reclaim (claim all_tokens 0))
claim_body = record {
  tokens = (
    its root_status refl refl tt,
    (
      its root_entries refl refl some_root,
      (its file_status refl refl tt, (its file_update refl refl tt, (its file_bytes refl refl (omega arith), tt))),
    ),
  );
  earlier = (earlier, (earlier, (earlier, (earlier, (earlier, tt)))));
  moves = (inl refl, (inl refl, (inl refl, (inl refl, (inl refl, tt)))));
}
  where
    earlier : 1 < 2
    earlier = omega arith

named_body : (m : Message) (fid : Fid) (ids : List TokenId) → m.server ≡ site_one → fid.fileset.0 / 65536 ≡ 1
    → Each (λ (id : TokenId). id.server ≡ site_one) ids → AreNamed m fid ids
named_body m fid ids v home issued = record {
  home = λ p. home ∙ sym (ap (λ (v : ServerId). v.0) v);
  issued = subst (λ v. Each (λ (id : TokenId). id.server ≡ v) ids) (sym v) issued;
}

recalled : (r : RevokeOf) → 1 ≤ r.stamp → AreNamed (told_to client 2 (Revoke r)) r.fid r.ids
    → IsBody both (told_to client 2 (Revoke r)) (Revoke r)
recalled r first named = record { stamp = first; named = named }

-- the messages of a step are its node's own, and sound
abbrev pub AllSound : Node → List Message → Type 0
AllSound node [] = Unit {0}
AllSound node (m ∷ ms) = (IsFrom node m × IsSound both m) × AllSound node ms

pub are_sound : (node : Node) (ms : List Message) → AllSound node ms → (m : Message) → In m ms
    → IsFrom node m × IsSound both m
are_sound node [] all m i = elim i [ ]
are_sound node (n ∷ ns) all m (inl p) = subst (λ x. IsFrom node x × IsSound both x) (sym p) all.0
are_sound node (n ∷ ns) all m (inr i) = are_sound node ns all.1 m i

-- of each step

pub sound_1 : AllSound (Host client) step_1.sent
sound_1 = (ask client 0 (Hello) first_host (refl) refl (tt), tt)

pub sound_2 : AllSound (Server site_one) step_2.sent
sound_2 = (tell client 1 (Reclaimed welcome) first_host (refl) refl (tt), tt)

pub sound_3 : AllSound (Host client) step_3.sent
sound_3 = (ask client 1 (Change (enter_for writes)) first_host (refl) tt (enter_body client 1 writes writes_call), tt)

pub sound_4 : AllSound (Server site_one) step_4.sent
sound_4 = (tell client 1 (Done entered) first_host (refl) tt (entered_body client 1), tt)

pub sound_5 : AllSound (Host client) step_5.sent
sound_5 = (ask client 1 (Fetch (fetch_of 1 root root_needs)) first_host (refl) tt (root_body client 1), tt)

pub sound_6 : AllSound (Server site_one) step_6.sent
sound_6 = (tell client 1 (Grant root_grant) first_host (refl) tt (grant_body client 1 root_grant (status_of true) (omega arith) refl (brought client 1 (Grant root_grant) root root_status refl refl refl refl tt, (brought client 1 (Grant root_grant) root root_entries refl refl refl refl some_root, tt)) (λ p. refl) (omega arith) refl refl (tt, tt) (omega arith)), tt)

pub sound_7 : AllSound (Host client) step_7.sent
sound_7 = (ask client 1 (Fetch (fetch_of 2 file file_needs)) first_host (refl) tt (file_body client 1), tt)

pub sound_8 : AllSound (Server site_one) step_8.sent
sound_8 = (tell client 1 (Grant file_grant) first_host (refl) tt (grant_body client 1 file_grant (status_of false) (omega arith) refl (brought client 1 (Grant file_grant) file file_status refl refl refl refl tt, tt) (λ p. refl) (omega arith) refl refl tt (omega arith)), tt)

pub sound_9 : AllSound (Host client) step_9.sent
sound_9 = (ask client 1 (Fetch (fetch_of 3 file update_needs)) first_host (refl) tt (update_body), tt)

pub sound_10 : AllSound (Server site_one) step_10.sent
sound_10 = (tell client 1 (Grant update_grant) first_host (refl) tt (grant_body client 1 update_grant (status_of false) (omega arith) refl (brought client 1 (Grant update_grant) file file_update refl refl refl refl tt, (brought client 1 (Grant update_grant) file file_bytes refl refl refl refl (omega arith), tt)) (λ p. refl) (omega arith) refl refl tt (omega arith)), tt)

pub sound_11 : AllSound (Host client) step_11.sent
sound_11 = tt

pub sound_12 : AllSound (Host client) step_12.sent
sound_12 = tt

pub sound_13 : AllSound (Server site_one) step_13.sent
sound_13 = (tell client 2 (Restarted) first_host (refl) refl (tt), tt)

pub sound_14 : AllSound (Host client) step_14.sent
sound_14 = (ask client 2 (Reclaim (claim all_tokens 0)) first_host (refl) refl (claim_body), tt)

pub sound_15 : AllSound (Server site_one) step_15.sent
sound_15 = (tell client 2 (Reclaimed welcome) first_host (refl) refl (tt), tt)

pub sound_16 : AllSound (Host client) step_16.sent
sound_16 = tt

pub sound_17 : AllSound (Host client) step_17.sent
sound_17 = (ask client 2 (Change (lock_for 3 locks)) first_host (refl) tt (lock_body client 3 (codes "l")), tt)

pub sound_18 : AllSound (Server site_one) step_18.sent
sound_18 = (tell client 2 (Done lock_done) first_host (refl) tt (locked_body), tt)

pub sound_19 : AllSound (Host client) step_19.sent
sound_19 = tt

pub sound_20 : AllSound (Host other) step_20.sent
sound_20 = (ask other 0 (Hello) second_host (refl) refl (tt), tt)

pub sound_21 : AllSound (Server site_one) step_21.sent
sound_21 = (tell other 2 (Reclaimed welcome) second_host (refl) refl (tt), tt)

pub sound_22 : AllSound (Host other) step_22.sent
sound_22 = (ask other 2 (Change (enter_for locks_too)) second_host (refl) tt (enter_body other 2 locks_too (lock_call (codes "m"))), tt)

pub sound_23 : AllSound (Server site_one) step_23.sent
sound_23 = (tell other 2 (Done entered) second_host (refl) tt (entered_body other 2), tt)

pub sound_24 : AllSound (Host other) step_24.sent
sound_24 = (ask other 2 (Fetch (fetch_of 1 root root_needs)) second_host (refl) tt (root_body other 2), tt)

pub sound_25 : AllSound (Server site_one) step_25.sent
sound_25 = (tell other 2 (Grant their_root) second_host (refl) tt (grant_body other 2 their_root (status_of true) (omega arith) refl (brought other 2 (Grant their_root) root their_status refl refl refl refl tt, (brought other 2 (Grant their_root) root their_entries refl refl refl refl some_root, tt)) (λ p. refl) (omega arith) refl refl (tt, tt) (omega arith)), tt)

pub sound_26 : AllSound (Host other) step_26.sent
sound_26 = (ask other 2 (Fetch (fetch_of 2 file file_needs)) second_host (refl) tt (file_body other 2), tt)

pub sound_27 : AllSound (Server site_one) step_27.sent
sound_27 = (tell client 2 (Revoke recall_length) first_host (refl) tt (recalled recall_length (omega arith) (named_body (told_to client 2 (Revoke recall_length)) recall_length.fid recall_length.ids refl refl (refl, tt))), tt)

pub sound_28 : AllSound (Host client) step_28.sent
sound_28 = (ask client 2 (GiveBack length_gift) first_host (refl) tt (give_body length_gift (omega arith) refl no_bytes_told (omega arith) tt (refl, tt)), tt)

pub sound_29 : AllSound (Server site_one) step_29.sent
sound_29 = (tell client 2 (Gone (number_of length_gift)) first_host (refl) tt (λ p. refl), (tell other 2 (Grant their_grant) second_host (refl) tt (grant_body other 2 their_grant (record (status_of false) { length = 2 }) (omega arith) refl (brought other 2 (Grant their_grant) file their_file refl refl refl refl tt, tt) (λ p. refl) (omega arith) refl refl tt (omega arith)), tt))

pub sound_30 : AllSound (Host client) step_30.sent
sound_30 = tt

pub sound_31 : AllSound (Host other) step_31.sent
sound_31 = (ask other 2 (Change (lock_for 1 locks_too)) second_host (refl) tt (lock_body other 1 (codes "m")), tt)

pub sound_32 : AllSound (Server site_one) step_32.sent
sound_32 = (tell client 2 (Revoke recall_lock) first_host (refl) tt (recalled recall_lock (omega arith) (named_body (told_to client 2 (Revoke recall_lock)) recall_lock.fid recall_lock.ids refl refl (refl, tt))), tt)

pub sound_33 : AllSound (Host client) step_33.sent
sound_33 = (ask client 2 (Kept kept_lock) first_host (refl) tt (named_body (asked client 2 (Kept kept_lock)) kept_lock.fid kept_lock.ids refl refl (refl, tt)), tt)

pub sound_34 : AllSound (Server site_one) step_34.sent
sound_34 = (tell other 2 (Done refused) second_host (refl) tt (refused_body), tt)

pub sound_35 : AllSound (Host other) step_35.sent
sound_35 = tt

pub sound_36 : AllSound (Host client) step_36.sent
sound_36 = (ask client 2 (GiveBack unlock_gift) first_host (refl) tt (give_body unlock_gift (omega arith) refl no_bytes_told tt tt (refl, tt)), tt)

pub sound_37 : AllSound (Server site_one) step_37.sent
sound_37 = (tell client 2 (Gone (number_of unlock_gift)) first_host (refl) tt (λ p. refl), tt)

pub sound_38 : AllSound (Host client) step_38.sent
sound_38 = tt

pub sound_39 : AllSound (Host other) step_39.sent
sound_39 = (ask other 2 (Returned of_root_too) second_host (refl) tt (named_body (asked other 2 (Returned of_root_too)) of_root_too.fid of_root_too.ids refl refl (refl, (refl, tt))), (ask other 2 (Returned of_file_too) second_host (refl) tt (named_body (asked other 2 (Returned of_file_too)) of_file_too.fid of_file_too.ids refl refl (refl, tt)), tt))

pub sound_40 : AllSound (Server site_one) step_40.sent
sound_40 = tt

pub sound_41 : AllSound (Server site_one) step_41.sent
sound_41 = tt

pub sound_42 : AllSound (Host other) step_42.sent
sound_42 = (ask other 2 (Bye) second_host (inl refl) refl (tt), tt)

pub sound_43 : AllSound (Server site_one) step_43.sent
sound_43 = (tell other 2 (Bye) second_host (inr refl) refl (tt), tt)

pub sound_44 : AllSound (Host other) step_44.sent
sound_44 = tt

pub sound_45 : AllSound (Host client) step_45.sent
sound_45 = (ask client 2 (GiveBack bytes_gift) first_host (refl) tt (give_body bytes_gift (omega arith) refl two_bytes tt tt (refl, tt)), (ask client 2 (Returned of_root) first_host (refl) tt (named_body (asked client 2 (Returned of_root)) of_root.fid of_root.ids refl refl (refl, (refl, tt))), (ask client 2 (Returned of_file) first_host (refl) tt (named_body (asked client 2 (Returned of_file)) of_file.fid of_file.ids refl refl (refl, tt)), tt)))

pub sound_46 : AllSound (Server site_one) step_46.sent
sound_46 = (tell client 2 (Gone (number_of bytes_gift)) first_host (refl) tt (λ p. refl), tt)

pub sound_47 : AllSound (Server site_one) step_47.sent
sound_47 = tt

pub sound_48 : AllSound (Server site_one) step_48.sent
sound_48 = tt

pub sound_49 : AllSound (Host client) step_49.sent
sound_49 = tt

pub sound_50 : AllSound (Host client) step_50.sent
sound_50 = (ask client 2 (Bye) first_host (inl refl) refl (tt), tt)

pub sound_51 : AllSound (Server site_one) step_51.sent
sound_51 = (tell client 2 (Bye) first_host (inr refl) refl (tt), tt)

pub sound_52 : AllSound (Host client) step_52.sent
sound_52 = tt
