-- What keeps the laws of a token manager.
use Rattle.std.proofs.Common.{◌≡◌, ◌<◌, ℕ, Bool, true, false, ◌==◌, ◌&&◌, ◌||◌, not, nat_lt, nat_le, cond, List, []}
use Rattle.std.proofs.Common.{◌∷◌, ◌++◌}
use Rattle.std.proofs.Common.{Option, Some, None, is_some, is_none, option_map, IfSome, if◌then◌else◌, get_or, refl}
use Rattle.std.proofs.Common.{sym}
use Rattle.std.proofs.Common.{inl, inr, ap, ◌∙◌, subst, arith}
use Rattle.std.specs.Prelude.{All, AllPairs}
use Rattle.std.specs.List.{filter, list_any}
use Rattle.std.specs.FinMap as maps
use Rattle.std.proofs.lemmas.Bool.{leb-true, le-leb, le-ltb, and_left, false≢true, true≢false, cases_Bool, or_cases}
use Rattle.std.proofs.lemmas.Bool.{or_left, or_right, not-true}
use Rattle.std.proofs.lemmas.List.Elements.{All-weaker, All-filter, All-push, All-append, All-nil, All-head, All-tail}
use Rattle.std.proofs.lemmas.List.Elements.{filter_passes}
use Rattle.std.proofs.lemmas.List.Folds.{list_any-append}
use Rattle.std.proofs.lemmas.List.Quantifiers.{all_pairs_push}
use Rattle.std.proofs.lemmas.List.Kept.{AllPairs-filter}
use Rattle.base_types.specs.declared.ids.HostId.{HostId}
use Rattle.base_types.specs.declared.ids.ServerId.{ServerId}
use Rattle.token_types.specs.declared.token.Token.{Token}
use Rattle.token_types.specs.declared.token.TokenId.{TokenId}
use Rattle.token_types.specs.Conflicts.{blocks, same_id}
use Rattle.token_types.specs.declared.token.Need.{Need}
use Rattle.token_table.specs.Shelves.{with_token}
use Rattle.token_table.specs.Tables.{Table, IsSound, has_id, is_past, next_tokens}
use Rattle.token_table.proofs.Shelving.{one_id}
use Rattle.token_table.proofs.Sound.{sound_granted, sound_filter, sound_placed, all_placed, none_at, ids_both}
use Rattle.token_table.proofs.Sound.{absent_each}
use Rattle.token_table.specs.declared.notes.Note.{Note}
use Rattle.token_table.specs.Marks.{NoteMap, note_at, put_if, with_each, with_note, without_note, without_notes_of}
use Rattle.token_table.specs.Marks.{is_note_of, key_cmp, key_of}
use Rattle.token_table.proofs.Reading.{with_each_at, put_if_at, without_note_at, without_notes_at, with_note_at}
use Rattle.token_manager.specs.declared.grants.Grants.{Grants}
use Rattle.token_manager.specs.declared.want.Want.{Want}
use Rattle.token_manager.specs.Grants.{is_blocked, with_grant, without_token, without_host, note_of, no_grants}
use Rattle.token_manager.specs.Grants.{is_earlier}
use Rattle.token_manager.specs.Grants.{CanClaim, with_claimed, with_claims}
use Rattle.token_manager.specs.Wants.{first_ahead}
use Rattle.token_manager.specs.Laws.{IsLawful, IsNoted, was_asked, is_passed}
use Rattle.token_manager.proofs.Granting.{noted_grant}
use Rattle.token_manager.proofs.Noting.{if_some_weaker, if_some_taken, if_some_changed, among_themselves, not_next}
use Rattle.token_manager.proofs.Noting.{same_self, has_without, has_placed, has_not_of}

-- what is noted of a token under what was asked
abbrev pub Known : Option ℕ → List Want → NoteMap → Token → Type 0
Known latest queue notes token = IfSome (note_at notes token.id) (IsNoted latest queue token)

known_by : (latest : Option ℕ) (queue : List Want) (token : Token) (o o' : Option Note) → o' ≡ o →
    IfSome o (IsNoted latest queue token) → IfSome o' (IsNoted latest queue token)
known_by latest queue token o o' is h = subst (λ p. IfSome p (IsNoted latest queue token)) (sym is) h

-- a server that has granted nothing
pub lawful_none : (server : ServerId) (epoch : ℕ) (latest : Option ℕ) → IsLawful (no_grants server epoch) [] latest
lawful_none server epoch latest = record {
  table = record {
    past = All-nil (λ (token : Token). is_past (no_grants server epoch).table token.id ≡ true);
    distinct = λ i j d before within. absurd (omega arith);
  };
  known = λ id. ap is_some (maps.get-empty key_cmp (key_of id));
  noted = All-nil (Known latest [] (no_grants server epoch).notes);
  rising = λ i j d before within. absurd (omega arith);
  asked = All-nil (λ (want : Want). was_asked latest want.number ≡ true);
}

-- a want is granted
module _ (grants : Grants) (queue : List Want) (latest : Option ℕ) (want : Want)
    (asked : was_asked latest want.number ≡ true) (first : is_none (first_ahead queue want) ≡ true)
    (h : IsLawful grants queue latest) where
  read : (id : TokenId) →
      note_at (with_grant grants want).notes id
      ≡ cond (has_id (next_tokens grants.table want.host want.needs) id) (Some (note_of want.host (Some want.number)))
      (note_at grants.notes id)
  read id = with_each_at grants.notes (next_tokens grants.table want.host want.needs)
      (note_of want.host (Some want.number)) id

  known_either : (note : Note) (b x : Bool) (o : Option Note) → is_some o ≡ x →
      is_some (cond b (Some note) o) ≡ (x || b)
  known_either note true true o e = refl
  known_either note true false o e = refl
  known_either note false true o e = e
  known_either note false false o e = e

  old : All (Known latest queue (with_grant grants want).notes) grants.table.tokens
  old k d within =
      let token = get_or grants.table.tokens k d in
      known_by latest queue token (note_at grants.notes token.id) (note_at (with_grant grants want).notes token.id)
      (read token.id ∙ ap (λ b. cond b (Some (note_of want.host (Some want.number))) (note_at grants.notes token.id))
      (not_next grants.table grants.table.last want.host want.needs token.id (omega arith) (h.table.past k d within)))
      (h.noted k d within)

  new : All (Known latest queue (with_grant grants want).notes) (next_tokens grants.table want.host want.needs)
  new k d within =
      let token = get_or (next_tokens grants.table want.host want.needs) k d in
      known_by latest queue token (Some (note_of want.host (Some want.number)))
      (note_at (with_grant grants want).notes token.id)
      (read token.id ∙ ap (λ b. cond b (Some (note_of want.host (Some want.number))) (note_at grants.notes token.id))
      (among_themselves (next_tokens grants.table want.host want.needs) k d within))
      (noted_grant latest queue want grants.table.server grants.table.epoch grants.table.last asked first k d within)

  pub lawful_grant : IsLawful (with_grant grants want) queue latest
  lawful_grant =
      record {
        table = sound_granted grants.table want.host want.needs h.table;
        known = λ id. ap is_some (read id)
            ∙ known_either (note_of want.host (Some want.number))
            (has_id (next_tokens grants.table want.host want.needs) id) (has_id grants.table.tokens id)
            (note_at grants.notes id) (h.known id)
            ∙ sym (list_any-append (λ token. same_id token.id id) grants.table.tokens
            (next_tokens grants.table want.host want.needs));
        noted = All-append (Known latest queue (with_grant grants want).notes) grants.table.tokens
            (next_tokens grants.table want.host want.needs) old new;
        rising = h.rising;
        asked = h.asked;
      }

-- what was asked was asked
later_asked : (latest : Option ℕ) (number n : ℕ) → IfSome latest (λ l. l < number) → was_asked latest n ≡ true →
    was_asked (Some number) n ≡ true
later_asked None number n later h = absurd (false≢true h)
later_asked (Some latest) number n later h = le-leb n number (omega (arith, leb-true n latest h))

-- the queue and the last number change
noted_else : (latest latest' : Option ℕ) (queue queue' : List Want) (grants : Grants) →
    ((token : Token) (note : Note) → IsNoted latest queue token note → IsNoted latest' queue' token note) →
    All (Known latest queue grants.notes) grants.table.tokens →
    All (Known latest' queue' grants.notes) grants.table.tokens
noted_else latest latest' queue queue' grants f all =
    All-weaker (Known latest queue grants.notes) (Known latest' queue' grants.notes)
    (λ token h. if_some_weaker (IsNoted latest queue token) (IsNoted latest' queue' token) (f token)
    (note_at grants.notes token.id) h) grants.table.tokens all

-- a want is asked
pub lawful_latest : (grants : Grants) (queue : List Want) (latest : Option ℕ) (number : ℕ) →
    IfSome latest (λ l. l < number) → IsLawful grants queue latest → IsLawful grants queue (Some number)
lawful_latest grants queue latest number later h =
    record {
      table = h.table;
      known = h.known;
      noted = noted_else latest (Some number) queue queue grants (λ token note n. record {
        host = n.host;
        asked = if_some_weaker (λ m. was_asked latest m ≡ true) (λ m. was_asked (Some number) m ≡ true)
            (λ m e. later_asked latest number m later e) note.want n.asked;
        in_turn = n.in_turn;
      }) h.noted;
      rising = h.rising;
      asked = All-weaker (λ want. was_asked latest want.number ≡ true)
          (λ want. was_asked (Some number) want.number ≡ true) (λ want e. later_asked latest number want.number later e)
          queue h.asked;
    }

-- a number that was asked is below a later one
pub below_later : (latest : Option ℕ) (number n : ℕ) → IfSome latest (λ l. l < number) → was_asked latest n ≡ true →
    n < number
below_later None number n later h = absurd (false≢true h)
below_later (Some latest) number n later h = omega (arith, leb-true n latest h)

-- it is queued
in_turn_push : (latest : Option ℕ) (queue : List Want) (want : Want) (token : Token) →
    IfSome latest (λ l. l < want.number) → (o : Option ℕ) → IfSome o (λ n. was_asked latest n ≡ true) →
    IfSome o (λ n. All (λ other. is_passed token n other ≡ false) queue) →
    IfSome o (λ n. All (λ other. is_passed token n other ≡ false) (queue ++ want ∷ []))
in_turn_push latest queue want token later None asked in_turn = tt
in_turn_push latest queue want token later (Some n) asked in_turn =
    All-push (λ other. is_passed token n other ≡ false) queue want in_turn
    (and_left (nat_lt want.number n) (blocks want.host want.needs token)
    (le-ltb want.number n (omega (arith, below_later latest want.number n later asked))))

pub lawful_push : (grants : Grants) (queue : List Want) (latest : Option ℕ) (want : Want) →
    IfSome latest (λ l. l < want.number) → IsLawful grants queue latest → IsLawful grants (queue ++ want ∷ [])
    (Some want.number)
lawful_push grants queue latest want later h =
    let after = lawful_latest grants queue latest want.number later h in
    record {
      table = h.table;
      known = h.known;
      noted = noted_else latest (Some want.number) queue (queue ++ want ∷ []) grants (λ token note n. record {
        host = n.host;
        asked = if_some_weaker (λ m. was_asked latest m ≡ true) (λ m. was_asked (Some want.number) m ≡ true)
            (λ m e. later_asked latest want.number m later e) note.want n.asked;
        in_turn = in_turn_push latest queue want token later note.want n.asked n.in_turn;
      }) h.noted;
      rising = all_pairs_push (λ a b. a.number < b.number) queue want h.rising (λ k d within.
          below_later latest want.number _ later (h.asked k d within));
      asked = All-push (λ other. was_asked (Some want.number) other.number ≡ true) queue want after.asked
          (le-leb want.number want.number (omega arith));
    }

-- wants leave the queue
pub lawful_filter : (grants : Grants) (queue : List Want) (latest : Option ℕ) (p : Want → Bool) → IsLawful grants queue
    latest → IsLawful grants (filter p queue) latest
lawful_filter grants queue latest p h =
    record {
      table = h.table;
      known = h.known;
      noted = noted_else latest latest queue (filter p queue) grants (λ token note n. record {
        host = n.host;
        asked = n.asked;
        in_turn = if_some_weaker (λ m. All (λ want. is_passed token m want ≡ false) queue)
            (λ m. All (λ want. is_passed token m want ≡ false) (filter p queue))
            (λ m all. All-filter p (λ want. is_passed token m want ≡ false) queue all) note.want n.in_turn;
      }) h.noted;
      rising = AllPairs-filter (λ a b. a.number < b.number) p queue h.rising;
      asked = All-filter p (λ want. was_asked latest want.number ≡ true) queue h.asked;
    }

-- a mark is set
some_changed : (f : Note → Note) (b : Bool) (o : Option Note) → is_some (cond b (option_map f o) o) ≡ is_some o
some_changed f true None = refl
some_changed f true (Some note) = refl
some_changed f false o = refl

pub lawful_marked : (grants : Grants) (queue : List Want) (latest : Option ℕ) (id : TokenId) (f : Note → Note) →
    ((token : Token) (note : Note) → IsNoted latest queue token note → IsNoted latest queue token (f note)) →
    IsLawful grants queue latest →
    IsLawful (record grants { notes = put_if grants.notes id f (note_at grants.notes id) }) queue latest
lawful_marked grants queue latest id f keeps h =
    record {
      table = h.table;
      known = λ other. ap is_some (put_if_at grants.notes id f other)
          ∙ some_changed f (same_id id other) (note_at grants.notes other) ∙ h.known other;
      noted = λ k d within.
          let token = get_or grants.table.tokens k d in
          known_by latest queue token
          (cond (same_id id token.id) (option_map f (note_at grants.notes token.id)) (note_at grants.notes token.id))
          (note_at (put_if grants.notes id f (note_at grants.notes id)) token.id)
          (put_if_at grants.notes id f token.id)
          (if_some_changed (IsNoted latest queue token) f (keeps token) (same_id id token.id)
          (note_at grants.notes token.id) (h.noted k d within));
      rising = h.rising;
      asked = h.asked;
    }

-- a token is given back
some_taken : (b x : Bool) (o : Option Note) → is_some o ≡ x → is_some (cond b None o) ≡ cond b false x
some_taken true x o e = refl
some_taken false x o e = e

pub lawful_without : (grants : Grants) (queue : List Want) (latest : Option ℕ) (id : TokenId) → IsLawful grants queue
    latest → IsLawful (without_token grants id) queue latest
lawful_without grants queue latest id h =
    record {
      table = sound_filter grants.table (λ token. not (same_id token.id id)) h.table;
      known = λ other. ap is_some (without_note_at grants.notes id other)
          ∙ some_taken (same_id id other) (has_id grants.table.tokens other) (note_at grants.notes other)
          (h.known other)
          ∙ sym (has_without grants.table.tokens id other);
      noted = All-weaker (Known latest queue grants.notes) (Known latest queue (without_token grants id).notes)
          (λ token n. known_by latest queue token (cond (same_id id token.id) None (note_at grants.notes token.id))
          (note_at (without_token grants id).notes token.id) (without_note_at grants.notes id token.id)
          (if_some_taken (IsNoted latest queue token) (same_id id token.id) (note_at grants.notes token.id) n))
          (without_token grants id).table.tokens
          (All-filter (λ token. not (same_id token.id id)) (Known latest queue grants.notes) grants.table.tokens
          h.noted);
      rising = h.rising;
      asked = h.asked;
    }

-- the tokens of a host are gone
module _ (grants : Grants) (queue : List Want) (latest : Option ℕ) (host : HostId)
    (h : IsLawful grants queue latest) where
  of_its_host : (note : Note) (id : TokenId) → note_at grants.notes id ≡ Some note →
      All (λ token. same_id token.id id ≡ true → note.host ≡ token.host) grants.table.tokens
  of_its_host note id is k d within same =
      let token = get_or grants.table.tokens k d in
      let there = ap (note_at grants.notes) (one_id token.id id same) ∙ is in
      (subst (λ o. IfSome o (IsNoted latest queue token)) there (h.noted k d within)).host

  known_of : (id : TokenId) (o : Option Note) → note_at grants.notes id ≡ o →
      is_some (cond (is_note_of host o) None o) ≡ has_id (without_host grants host).table.tokens id
  known_of id None is = sym (has_not_of host host grants.table.tokens id none
      ∙ gone (host.0 == host.0) (has_id grants.table.tokens id) absent)
    where
      absent : has_id grants.table.tokens id ≡ false
      absent = sym (h.known id) ∙ ap is_some is

      none : All (λ token. same_id token.id id ≡ true → host ≡ token.host) grants.table.tokens
      none k d within same = absurd (true≢false (sym same
          ∙ none_at (λ token. same_id token.id id) grants.table.tokens k d absent within))

      gone : (b c : Bool) → c ≡ false → cond b false c ≡ false
      gone true c e = refl
      gone false c e = e
  known_of id (Some note) is =
      some_taken (note.host.0 == host.0) (has_id grants.table.tokens id) (Some note) (ap is_some (sym is) ∙ h.known id)
      ∙ sym (has_not_of host note.host grants.table.tokens id (of_its_host note id is))

  pub lawful_not_of : IsLawful (without_host grants host) queue latest
  lawful_not_of =
      record {
        table = sound_filter grants.table (λ token. not (token.host.0 == host.0)) h.table;
        known = λ id. ap is_some (without_notes_at grants.notes host id) ∙ known_of id (note_at grants.notes id) refl;
        noted = All-weaker (Known latest queue grants.notes) (Known latest queue (without_host grants host).notes)
            (λ token n. known_by latest queue token
            (cond (is_note_of host (note_at grants.notes token.id)) None (note_at grants.notes token.id))
            (note_at (without_host grants host).notes token.id) (without_notes_at grants.notes host token.id)
            (if_some_taken (IsNoted latest queue token) (is_note_of host (note_at grants.notes token.id))
            (note_at grants.notes token.id) n))
            (without_host grants host).table.tokens
            (All-filter (λ token. not (token.host.0 == host.0)) (Known latest queue grants.notes) grants.table.tokens
            h.noted);
        rising = h.rising;
        asked = h.asked;
      }

-- a token is claimed
pub one_of : (a b : Bool) → (a || b) ≡ true → b ≡ false → a ≡ true
one_of true b e f = refl
one_of false b e f = absurd (true≢false (sym e ∙ f))

module _ (grants : Grants) (token : Token) where
  abbrev pub claimed : Grants
  claimed = record {
    table = with_token grants.table token;
    notes = with_note grants.notes token.id (note_of token.host None);
  }

  some_claimed : (b : Bool) (o : Option Note) (x : Bool) → is_some o ≡ x →
      is_some (cond b (Some (note_of token.host None)) o) ≡ (b || x)
  some_claimed true o x e = refl
  some_claimed false o x e = e

  pub known_claimed : ((id : TokenId) → is_some (note_at grants.notes id) ≡ has_id grants.table.tokens id) →
      (id : TokenId) → is_some (note_at claimed.notes id) ≡ has_id claimed.table.tokens id
  known_claimed known id =
      ap is_some (with_note_at grants.notes token.id (note_of token.host None) id)
      ∙ some_claimed (same_id token.id id) (note_at grants.notes id) (has_id grants.table.tokens id) (known id)
      ∙ sym (has_placed grants.table.server grants.table.epoch token grants.table.tokens id)

  module _ (queue : List Want) (latest : Option ℕ) (h : IsLawful grants queue latest)
      (absent : has_id grants.table.tokens token.id ≡ false) where
    old_claimed : All (Known latest queue claimed.notes) grants.table.tokens
    old_claimed k d within =
        let other = get_or grants.table.tokens k d in
        known_by latest queue other (note_at grants.notes other.id) (note_at claimed.notes other.id)
        (with_note_at grants.notes token.id (note_of token.host None) other.id
        ∙ ap (λ b. cond b (Some (note_of token.host None)) (note_at grants.notes other.id))
        (ids_both token.id other.id
        ∙ none_at (λ t. same_id t.id token.id) grants.table.tokens k d absent within))
        (h.noted k d within)

    new_claimed : Known latest queue claimed.notes token
    new_claimed = known_by latest queue token (Some (note_of token.host None)) (note_at claimed.notes token.id)
        (with_note_at grants.notes token.id (note_of token.host None) token.id
        ∙ ap (λ b. cond b (Some (note_of token.host None)) (note_at grants.notes token.id)) (same_self token.id))
        (record { host = refl; asked = tt; in_turn = tt })

    lawful_new : is_past grants.table token.id ≡ true → IsLawful claimed queue latest
    lawful_new past =
        record {
          table = sound_placed grants.table token past absent h.table;
          known = known_claimed h.known;
          noted = all_placed grants.table.server grants.table.epoch token (Known latest queue claimed.notes)
              grants.table.tokens new_claimed old_claimed;
          rising = h.rising;
          asked = h.asked;
        }

-- a number of before is past
pub earlier_past : (table : Table) (id : TokenId) → is_earlier table id ≡ true → is_past table id ≡ true
earlier_past table id e = or_left (is_earlier table id) ((id.epoch == table.epoch) && nat_le id.seq table.last) e

pub lawful_claimed : (grants : Grants) (queue : List Want) (latest : Option ℕ) (token : Token) →
    CanClaim grants token → IsLawful grants queue latest → IsLawful (with_claimed grants token) queue latest
lawful_claimed grants queue latest token can h = elim (cases_Bool (has_id grants.table.tokens token.id)) [
  | inl there ↦ rw there h
  | inr absent ↦ rw absent (lawful_new grants token queue latest h absent (earlier_past grants.table token.id
      (one_of (is_earlier grants.table token.id) (has_id grants.table.tokens token.id) can absent)))
]

-- what may be claimed may be after a claim
pub can_later : (grants : Grants) (token other : Token) → CanClaim grants other →
    CanClaim (with_claimed grants token) other
can_later grants token other can = elim (cases_Bool (has_id grants.table.tokens token.id)) [
  | inl there ↦ rw there can
  | inr absent ↦ rw (absent, has_placed grants.table.server grants.table.epoch token grants.table.tokens other.id)
      (more (is_earlier grants.table other.id) (same_id token.id other.id) (has_id grants.table.tokens other.id) can)
]
  where
    more : (a b c : Bool) → (a || c) ≡ true → (a || (b || c)) ≡ true
    more true b c e = refl
    more false true c e = refl
    more false false c e = e

pub lawful_claims : (grants : Grants) (queue : List Want) (latest : Option ℕ) (tokens : List Token) →
    All (CanClaim grants) tokens → IsLawful grants queue latest → IsLawful (with_claims grants tokens) queue latest
lawful_claims grants queue latest [] can h = h
lawful_claims grants queue latest (token ∷ tokens) can h =
    lawful_claims (with_claimed grants token) queue latest tokens
    (All-weaker (CanClaim grants) (CanClaim (with_claimed grants token)) (can_later grants token) tokens
    (All-tail (CanClaim grants) token tokens can))
    (lawful_claimed grants queue latest token (All-head (CanClaim grants) token tokens can) h)

-- the last sequence number stays
pub last_claims : (grants : Grants) (tokens : List Token) → (with_claims grants tokens).table.last ≡ grants.table.last
last_claims grants [] = refl
last_claims grants (token ∷ tokens) = last_claims (with_claimed grants token) tokens ∙ same
  where
    same : (with_claimed grants token).table.last ≡ grants.table.last
    same = elim (cases_Bool (has_id grants.table.tokens token.id)) [
      | inl there ↦ rw there refl
      | inr absent ↦ rw absent refl
    ]

-- the numbers of the next tokens aren't noted
pub fresh_next : (grants : Grants) (queue : List Want) (latest : Option ℕ) (host : HostId) (needs : List Need) →
    IsLawful grants queue latest →
    All (λ token. note_at grants.notes token.id ≡ None) (next_tokens grants.table host needs)
fresh_next grants queue latest host needs h =
    All-weaker (λ token. has_id grants.table.tokens token.id ≡ false) (λ token. note_at grants.notes token.id ≡ None)
    (λ token absent. none_of (note_at grants.notes token.id) (h.known token.id ∙ absent))
    (next_tokens grants.table host needs) (absent_each grants.table host needs h.table)
  where
    none_of : (o : Option Note) → is_some o ≡ false → o ≡ None
    none_of None e = refl
    none_of (Some note) e = absurd (true≢false e)
