-- The examples of soundness.
use Rattle.std.proofs.Common.{◌≡◌, ◌≤◌, ◌<◌, ◌⊎◌, ℕ, ◌+◌, ◌*◌, ◌/◌, length, ap, inl, inr, refl, arith, lit<, lit≤}
use Rattle.std.specs.Prelude.{List, Some, None, replicate, zero, suc, true, false, IsTrue, [], ◌∷◌}
use Rattle.base_types.specs.declared.ids.Fid.{Fid}
use Rattle.base_types.specs.declared.ids.HostId.{HostId}
use Rattle.base_types.specs.declared.ids.ServerId.{ServerId}
use Rattle.message_types.specs.declared.message.Direction.TheVariants.{ToServer, ToHost}
use Rattle.tree_calls.specs.declared.call.Call.TheVariants.{Stat}
use Rattle.tree_calls.specs.declared.part.Piece.{Piece}
use Rattle.message_types.specs.declared.message.Body.TheVariants.{Hello}
use Rattle.message_types.specs.Soundness.{AreFileBytes, Each, IsServer, IsHome, IsNumbered, IsCall, IsKept}
use Rattle.message_types.specs.Examples.{some_roster, sent, root_status, granted, told, rising, place, saved, kept, Sound, Examples, AskedAndTold, ChangedAndGiven}

first : IsServer some_roster (record { 0 = 1 })
first = record { first = lit≤ tt; last = lit≤ tt }

second : IsServer some_roster (record { 0 = 2 })
second = record { first = lit≤ tt; last = lit≤ tt }

grant_sound : (born moves : ℕ) → (moves ≡ 0 → (65536 * born + 1) / 65536 ≡ 1) → Sound ToHost 1 moves (granted 1 born (Some root_status))
grant_sound born moves home = record {
  host = lit≤ tt;
  server = first;
  way = refl;
  apart = λ e. absurd (cc);
  moves = tt;
  body = record {
    stamp = lit≤ tt;
    brings = record {
      tokens = (record { own = record { host = refl; server = refl; room = tt }; file = refl; epoch = refl }, tt);
      home = λ token tokens e. home;
    };
    home = home;
    told = record {
      size = lit≤ tt;
      lists = refl;
      bytes = record { ends = tt; order = tt; together = lit≤ tt; count = lit≤ tt };
      order = tt;
      few = lit≤ tt;
      absent = λ e. absurd (cc);
    };
    absent = λ e. absurd (cc);
  };
}

pub shown : Examples
shown = record {
  hello = record { host = lit≤ tt; server = first; way = refl; apart = λ e. absurd (cc); moves = refl; body = tt };
  hello_to_host = λ s. let e = s.way in absurd (cc);
  unknown_host = λ s. let h : 2 ≤ 1 = s.host in omega (arith, h);
  unknown_server = λ s. let h : 3 ≤ 2 = s.server.last in omega (arith, h);
  hello_with_moves = λ s. let h : 1 ≡ 0 = s.moves in omega (arith, h);
  grant = grant_sound 1 0 (λ e. refl);
  grant_moved = grant_sound 2 1 (λ e. let h : 1 ≡ 0 = e in absurd (omega (arith, h)));
  grant_elsewhere = λ s. let h : 131073 / 65536 ≡ 1 = s.body.home refl in let k : 2 ≡ 1 = h in omega (arith, k);
  grant_to_other = λ s. let h : 0 ≡ 1 = ap (λ (v : HostId). v.0) s.body.brings.tokens.0.own.host in omega (arith, h);
  grant_of_nothing = λ s. let e = s.body.absent refl in absurd (cc);
  claim = record {
    host = lit≤ tt;
    server = first;
    way = refl;
    apart = λ e. absurd (cc);
    moves = refl;
    body = record { tokens = (record { host = refl; server = refl; room = tt }, tt); earlier = (lit< tt, tt); moves = (inl refl, tt) };
  };
  claim_of_now = λ s. let h : 2 < 2 = s.body.earlier.0 in omega (arith, h);
  claim_without_moves = λ s. s.body.moves.0;
  ship_anode = record {
    host = lit≤ tt;
    server = first;
    way = refl;
    apart = λ w. (refl, refl);
    moves = tt;
    body = (
      second,
      (
        lit≤ tt,
        lit≤ tt,
        refl,
        record {
          size = tt;
          lists = tt;
          bytes = record { ends = tt; order = tt; together = lit≤ tt; count = lit≤ tt };
          order = tt;
          few = lit≤ tt;
          absent = λ e. (refl, refl);
        },
      ),
    );
  };
  ship_anode_as_head = λ s. let h : 1 ≤ 0 = s.body.1.0 in omega (arith, h);
  ship_other_anode = λ s. let h : 4 ≡ 3 = s.body.1.2 in omega (arith, h);
  ship_of_host = λ s. let h : 1 ≡ 0 = (s.apart refl).0 in omega (arith, h);
  ship_in_epoch = λ s. let h : 2 ≡ 0 = (s.apart refl).1 in omega (arith, h);
  ship_beyond = λ s. let h : 65 ≤ 64 = s.body.1.1 in omega (arith, h);
  ship_to_unknown = λ s. let h : 3 ≤ 2 = s.body.0.last in omega (arith, h);
  shipped_to_unknown = λ s. let h : 3 ≤ 2 = s.body.0.last in omega (arith, h);
}

-- it isn't about filesets themselves, and was born elsewhere
born_elsewhere : IsNumbered (sent ToServer 1 0 Hello) (record { 0 = 131073 }) → ⊥
born_elsewhere (inl e) = let h : 131073 ≡ 0 = e in omega (arith, h)
born_elsewhere (inr f) = let h : 131073 / 65536 ≡ 1 = f refl in let k : 2 ≡ 1 = h in omega (arith, k)

not_home : IsHome (sent ToServer 1 0 Hello) (record { 0 = 131073 }) → ⊥
not_home f = let h : 131073 / 65536 ≡ 1 = f refl in let k : 2 ≡ 1 = h in omega (arith, k)

other_file : (a b : ℕ) (f g : Fid) → f ≡ g → f.fileset.0 ≡ a → g.fileset.0 ≡ b → a ≡ b
other_file a b f g e h k = let d = ap (λ (v : Fid). v.fileset.0) e in omega (arith, d, h, k)

none_first : 1 ≤ 0 → ⊥
none_first h = omega (arith, h)

none_told : AreFileBytes []
none_told = record { ends = tt; order = tt; together = lit≤ tt; count = lit≤ tt }

rise : AreFileBytes rising
rise = record {
  ends = (lit≤ tt, (lit≤ tt, (lit≤ tt, (lit≤ tt, tt))));
  order = ((lit≤ tt, (lit≤ tt, (lit≤ tt, tt))), ((lit≤ tt, (lit≤ tt, tt)), ((lit≤ tt, tt), (tt, tt))));
  together = lit≤ tt;
  count = lit≤ tt;
}

told_sound : Sound ToHost 1 0 (told (Some root_status) rising [])
told_sound = record {
  host = lit≤ tt;
  server = first;
  way = refl;
  apart = λ e. absurd (cc);
  moves = tt;
  body = record {
    stamp = lit≤ tt;
    brings = record { tokens = tt; home = λ token tokens e. absurd (cc) };
    home = λ e. refl;
    told = record {
      size = lit≤ tt;
      lists = refl;
      bytes = rise;
      order = tt;
      few = lit≤ tt;
      absent = λ e. absurd (cc);
    };
    absent = λ e. absurd (cc);
  };
}

pub asked_and_told : AskedAndTold
asked_and_told = record {
  fetch = record {
    host = lit≤ tt;
    server = first;
    way = refl;
    apart = λ e. absurd (cc);
    moves = tt;
    body = record { number = lit≤ tt; home = λ e. refl; file = (refl, tt); kinds = (tt, tt); room = (tt, tt); count = lit≤ tt };
  };
  fetch_of_number_0 = λ s. none_first s.body.number;
  fetch_elsewhere = λ s. not_home s.body.home;
  fetch_other_file = λ s. let h = other_file 131073 65537 _ _ s.body.file.0 refl refl in omega (arith, h);
  fetch_opening = λ s. s.body.kinds.0;
  fetch_no_bytes = λ s. let h : 8 < 8 = s.body.room.0 in omega (arith, h);
  fetch_too_many = λ needs l s. let h : length needs ≤ 65535 = s.body.count in omega (arith, h, l);
  revoke = record {
    host = lit≤ tt;
    server = first;
    way = refl;
    apart = λ e. absurd (cc);
    moves = tt;
    body = record { stamp = lit≤ tt; named = record { home = λ e. refl; issued = (refl, tt) } };
  };
  revoke_without_stamp = λ s. none_first s.body.stamp;
  revoke_elsewhere = λ s. not_home s.body.named.home;
  revoke_of_other = λ s. let h : 2 ≡ 1 = ap (λ (v : ServerId). v.0) s.body.named.issued.0 in omega (arith, h);
  told_rising = told_sound;
  told_without_stamp = λ s. none_first s.body.stamp;
  told_overlap = λ s. let h : 3 + 1 ≤ 3 = s.body.told.bytes.order.0.0 in omega (arith, h);
  told_falling_bytes = λ s. let h : 4 + 1 ≤ 3 = s.body.told.bytes.order.0.0 in omega (arith, h);
  told_within = λ s. let h : 3 + 1 ≤ 3 = s.body.told.bytes.order.0.0 in omega (arith, h);
  told_long = λ s. let h : 65537 ≤ 65536 = s.body.told.size in omega (arith, h);
  told_lists = λ s. let h : 3 ≡ 1 = s.body.told.lists in omega (arith, h);
  told_end = λ s. let h : 65536 + 1 ≤ 65536 = s.body.told.bytes.ends.0 in omega (arith, h);
  told_together = λ bytes l s. let h : 0 + length bytes ≤ 65536 = s.body.told.bytes.together in omega (arith, h, l);
  told_pieces = λ pieces l s. let h : length pieces ≤ 65535 = s.body.told.bytes.count in omega (arith, h, l);
  told_falling = λ s. let e : false ≡ true = s.body.told.order.0.0 in absurd (cc);
  told_twice = λ s. let e : false ≡ true = s.body.told.order.0.0 in absurd (cc);
  told_many = λ entries l s. let h : length entries ≤ 64 = s.body.told.few in omega (arith, h, l);
  bytes_of_nothing = λ s. let e = (s.body.told.absent refl).0 in absurd (cc);
  entries_of_nothing = λ s. let e = (s.body.told.absent refl).1 in absurd (cc);
  token_of_other = λ s.
      let h : 2 ≡ 1 = ap (λ (v : ServerId). v.0) s.body.brings.tokens.0.own.server in
      omega (arith, h);
  token_no_bytes = λ s. let h : 8 < 8 = s.body.brings.tokens.0.own.room in omega (arith, h);
  token_other_file = λ s. let h = other_file 131073 65537 _ _ s.body.brings.tokens.0.file refl refl in omega (arith, h);
  token_earlier = λ s. let h : 1 ≡ 2 = s.body.brings.tokens.0.epoch in omega (arith, h);
  done = record {
    host = lit≤ tt;
    server = first;
    way = refl;
    apart = λ e. absurd (cc);
    moves = tt;
    body = record {
      fileset = inr (λ e. refl);
      outcome = tt;
      brings = record { tokens = tt; home = λ token tokens e. absurd (cc) };
      some = λ token tokens e. absurd (cc);
      none = λ e. (refl, refl);
    };
  };
  done_elsewhere = λ s. born_elsewhere s.body.fileset;
  done_known_elsewhere = λ s. not_home s.body.outcome;
  done_unknown_server = λ s. let h : 3 ≤ 2 = s.body.outcome.last in omega (arith, h);
  done_names = λ names l s. let h : length names ≤ 65535 = s.body.outcome in omega (arith, h, l);
  done_bytes = λ bytes l s. let h : length bytes ≤ 4294967295 = s.body.outcome in omega (arith, h, l);
  done_brings_elsewhere = λ s. not_home (s.body.brings.home _ _ refl);
  done_tokens_without_stamp = λ s. none_first (s.body.some _ _ refl);
  done_file_of_nothing = λ s. let h = other_file 65537 0 _ _ (s.body.none refl).0 refl refl in omega (arith, h);
  done_stamp_of_nothing = λ s. let h : 1 ≡ 0 = (s.body.none refl).1 in omega (arith, h);
}

not_decided : {A : Type 0} → (A → ⊥) → IsTrue false ⊎ A → ⊥
not_decided f (inl e) = let h : false ≡ true = e in absurd (cc)
not_decided f (inr a) = f a

stat_sound : IsCall some_roster (Stat (place 1 []))
stat_sound = record { servers = (first, tt); paths = (lit≤ tt, tt); objects = refl; groups = tt; bytes = tt }

give_sound : (moves server : ℕ) (pieces : List Piece) → AreFileBytes pieces
    → IsServer some_roster (record { 0 = server }) → (moves ≡ 0 → server ≡ 1)
    → Sound ToServer 1 moves (saved 1 server pieces None None)
give_sound moves server pieces bytes known own = record {
  host = lit≤ tt;
  server = first;
  way = refl;
  apart = λ e. absurd (cc);
  moves = tt;
  body = record {
    number = lit≤ tt;
    home = λ e. refl;
    declared = (known, tt);
    issued = λ e. (ap (λ v. record { 0 = v }) (own e), tt);
    bytes = bytes;
    size = tt;
    ends = tt;
  };
}

unknown_target : Each (IsServer some_roster) (record { 0 = 1 } ∷ record { 0 = 3 } ∷ []) → ⊥
unknown_target e = let (one, others) = e in let (other, none) = others in let h : 3 ≤ 2 = other.last in omega (arith, h)

all_kept : (n : ℕ) → Each IsKept (replicate n (kept 21 63))
all_kept zero = tt
all_kept (suc n) = (record { code = lit≤ tt; rights = lit< tt }, all_kept n)

pub changed_and_given : ChangedAndGiven
changed_and_given = record {
  change = record {
    host = lit≤ tt;
    server = first;
    way = refl;
    apart = λ e. absurd (cc);
    moves = tt;
    body = record { number = lit≤ tt; fileset = inr (λ e. refl); call = stat_sound; decided = inl refl };
  };
  change_of_number_0 = λ s. none_first s.body.number;
  change_elsewhere = λ s. born_elsewhere s.body.fileset;
  change_not_decided = λ s. not_decided (λ b. b) s.body.decided;
  change_of_other = λ s.
      not_decided (λ e. let h : 2 ≡ 1 = ap (λ (v : ServerId). v.0) e in omega (arith, h)) s.body.decided;
  change_unknown_server = λ s. let h : 3 ≤ 2 = s.body.call.servers.0.last in omega (arith, h);
  change_no_server = λ s. let h : 1 ≤ 0 = s.body.call.servers.0.first in omega (arith, h);
  change_path = λ path l s. let h : length path ≤ 65535 = s.body.call.paths.0 in omega (arith, h, l);
  change_no_objects = λ s. let e : false ≡ true = s.body.call.objects in absurd (cc);
  change_no_group = λ s. let h : 1 ≤ 0 = s.body.call.groups.0 in omega (arith, h);
  change_groups = λ groups l s. let h : length groups ≤ 8 = s.body.call.groups.1 in omega (arith, h, l);
  change_bytes = λ bytes l s. let h : length bytes ≤ 4294967295 = s.body.call.bytes in omega (arith, h, l);
  give = give_sound 0 1 [] none_told first (λ e. refl);
  give_of_number_0 = λ s. none_first s.body.number;
  give_rising = give_sound 0 1 rising rise first (λ e. refl);
  give_overlap = λ s. let h : 3 + 1 ≤ 3 = s.body.bytes.order.0.0 in omega (arith, h);
  give_moved = give_sound 1 2 [] none_told second (λ e. let h : 1 ≡ 0 = e in absurd (omega (arith, h)));
  give_elsewhere = λ s. not_home s.body.home;
  give_of_other = λ s. let h : 2 ≡ 1 = ap (λ (v : ServerId). v.0) (s.body.issued refl).0 in omega (arith, h);
  give_of_unknown = λ s. let h : 3 ≤ 2 = s.body.declared.0.last in omega (arith, h);
  give_end = λ s. let h : 65536 + 1 ≤ 65536 = s.body.bytes.ends.0 in omega (arith, h);
  give_long = λ s. let h : 65537 ≤ 65536 = s.body.size in omega (arith, h);
  give_ends_stat = λ s. s.body.ends;
  gone_elsewhere = λ s. not_home s.body;
  claim_of_other = λ s. let h : 0 ≡ 1 = ap (λ (v : HostId). v.0) s.body.tokens.0.host in omega (arith, h);
  left_out_of_other = λ s. let h : 2 ≡ 1 = ap (λ (v : ServerId). v.0) s.body.0 in omega (arith, h);
  not_here_unknown = λ s. let h : 3 ≤ 2 = s.body.last in omega (arith, h);
  head = record {
    host = lit≤ tt;
    server = first;
    way = refl;
    apart = λ w. (refl, refl);
    moves = tt;
    body = (
      second,
      (
        refl,
        record {
          least = lit≤ tt;
          most = lit≤ tt;
          hosts = refl;
          kept = all_kept 17;
          host = lit≤ tt;
          call = record { servers = (first, (second, tt)); paths = tt; objects = refl; groups = tt; bytes = tt };
          moves = tt;
        },
      ),
    );
  };
  head_as_anode = λ s. let h : 1 ≡ 0 = s.body.1.0 in omega (arith, h);
  head_no_objects = λ s. let h : 1 ≤ 0 = s.body.1.1.least in omega (arith, h);
  head_objects = λ s. let h : 65 ≤ 64 = s.body.1.1.most in omega (arith, h);
  head_hosts = λ s. let h : 16 ≡ 17 = s.body.1.1.hosts in omega (arith, h);
  head_code = λ s. let h : 22 ≤ 21 = s.body.1.1.kept.0.code in omega (arith, h);
  head_right = λ s. let h : 64 < 64 = s.body.1.1.kept.0.rights in omega (arith, h);
  head_unknown_host = λ s. let h : 2 ≤ 1 = s.body.1.1.host in omega (arith, h);
  head_unknown_server = λ s. unknown_target s.body.1.1.call.servers;
  head_no_move = λ s. s.body.1.1.moves;
}
