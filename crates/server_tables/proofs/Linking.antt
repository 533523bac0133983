-- What the manager leaves where a host goes away, and where a claim is granted.
use Rattle.std.proofs.Common.{◌≡◌, ◌⊎◌, ℕ, ◌==◌, Bool, true, false, not, cond, if◌then◌else◌, is_some, Option, None}
use Rattle.std.proofs.Common.{Some, List, [], ◌∷◌, inl, inr, refl, sym, ◌∙◌, ap, subst, eq-eqb}
use Rattle.std.specs.Option.{option_map_or}
use Rattle.std.proofs.lemmas.Bool.{cases_Bool, false≢true}
use Rattle.base_types.specs.declared.ids.HostId.{HostId}
use Rattle.base_types.specs.declared.ids.ServerId.{ServerId}
use Rattle.token_manager.specs.declared.grants.Grants.{Grants}
use Rattle.token_manager.specs.Grants.{note_of, with_claimed, with_claims, without_host}
use Rattle.token_manager.proofs.Noting.{same_self}
use Rattle.token_table.specs.declared.notes.Note.{Note}
use Rattle.token_table.specs.Marks.{is_note_of, is_pinned, is_revoked, note_at, with_note, without_notes_of}
use Rattle.token_table.specs.Places.{comes_before, placed}
use Rattle.token_table.specs.Shelves.{with_token}
use Rattle.token_table.specs.Tables.{has_id}
use Rattle.token_table.proofs.Reading.{with_note_at, without_notes_at}
use Rattle.token_types.specs.Conflicts.{same_id}
use Rattle.token_types.specs.declared.token.Token.{Token}
use Rattle.token_types.specs.declared.token.TokenId.{TokenId}
use Rattle.run_rules.specs.Past.{In}
use Rattle.server_tables.specs.Standing.{tokens_of}
use Rattle.server_tables.proofs.Admitting.{IsAdmitted}
use Rattle.server_tables.proofs.Fetching.{same_host}
use Rattle.server_tables.proofs.Granting.{id_is}
use Rattle.server_tables.proofs.Leaving.{IsWithoutHost}
use Rattle.server_tables.proofs.Without.{in_filter, to_filter}

not_false : (b : Bool) → not b ≡ true → b ≡ false
not_false true e = absurd (false≢true e)
not_false false e = refl

-- what is noted is there, and of its token's host
pub record AreOwned (grants : Grants) : Type 0 where
  pub noted : (i : TokenId) → is_some (note_at grants.notes i) ≡ true → (t : Token) × In t (tokens_of grants) ×
      (t.id ≡ i)
  pub hosts : (t : Token) (note : Note) → In t (tokens_of grants) → note_at grants.notes t.id ≡ Some note → note.host
      ≡ t.host

module _ (grants : Grants) (host : HostId) (s : AreOwned grants) where
  other_note : (t : Token) → In t (tokens_of grants) → (t.host ≡ host → ⊥) → is_note_of host
      (note_at grants.notes t.id) ≡ false
  other_note t m other = go (note_at grants.notes t.id) refl
    where
      go : (o : Option Note) → note_at grants.notes t.id ≡ o → is_note_of host o ≡ false
      go None e = refl
      go (Some note) e = elim (cases_Bool (note.host.0 == host.0)) [
        | inl p ↦ absurd (other (sym (s.hosts t note m e) ∙ same_host note.host host p))
        | inr p ↦ p
      ]

  apart : (t : Token) → (t.host ≡ host → ⊥) → not (t.host.0 == host.0) ≡ true
  apart t other = elim (cases_Bool (t.host.0 == host.0)) [
    | inl p ↦ absurd (other (same_host t.host host p))
    | inr p ↦
        ap not p
  ]

  pub host_without : IsWithoutHost grants (without_host grants host) host
  host_without = record {
    server = refl;
    epoch = refl;
    last = refl;
    were = λ t m. (in_filter (λ token. not (token.host.0 == host.0)) t (tokens_of grants) m).0;
    gone = λ t m e. false≢true (sym (not_false (t.host.0 == host.0) (in_filter (λ token. not
        (token.host.0 == host.0)) t (tokens_of grants) m).1)
        ∙ eq-eqb t.host.0 host.0 (ap (λ (z : HostId). z.0) e));
    stay = λ t m other. to_filter (λ token. not (token.host.0 == host.0)) t (tokens_of grants) m (apart t other);
    same = λ t m. let p = in_filter (λ token. not (token.host.0 == host.0)) t (tokens_of grants) m in
        without_notes_at grants.notes host t.id
        ∙ ap (λ (b : Bool). cond b None (note_at grants.notes t.id)) (other_note t p.0 (λ e. false≢true
        (sym (not_false (t.host.0 == host.0) p.1) ∙ eq-eqb t.host.0 host.0 (ap (λ (z : HostId). z.0) e))));
    noted = noted;
  }
    where
      noted : (i : TokenId) → is_some (note_at (without_notes_of grants.notes host) i) ≡ true
          → (t : Token) × In t (tokens_of (without_host grants host)) × (t.id ≡ i)
      noted i p = go (note_at grants.notes i) refl (sym (ap is_some (without_notes_at grants.notes host i)) ∙ p)
        where
          go : (o : Option Note) → note_at grants.notes i ≡ o → is_some (cond (is_note_of host
              (note_at grants.notes i)) None (note_at grants.notes i)) ≡ true
              → (t : Token) × In t (tokens_of (without_host grants host)) × (t.id ≡ i)
          go None e q = absurd (let r = rw e at q in cc)
          go (Some note) e q =
              let u = s.noted i (ap is_some e) in
              let h : note.host ≡ u.0.host = s.hosts u.0 note u.1 (ap (note_at grants.notes) u.2 ∙ e) in (
                u.0,
                to_filter (λ token. not (token.host.0 == host.0)) u.0 (tokens_of grants) u.1 (apart u.0
                    (λ k. gone (h ∙ k) (rw e at q))),
                u.2,
              )
            where
              gone : note.host ≡ host → is_some (cond (note.host.0 == host.0) None (Some note)) ≡ true → ⊥
              gone k r = let b = eq-eqb note.host.0 host.0 (ap (λ (z : HostId). z.0) k) in let c = rw b at r in cc

-- a token in its place
in_first : (server : ServerId) (epoch : ℕ) (token x y : Token) (ys : List Token) →
    (In x (placed server epoch token ys) → (x ≡ token) ⊎ In x ys)
    → (b : Bool) → comes_before server epoch y token ≡ b → In x (placed server epoch token (y ∷ ys)) → (x ≡ token)
    ⊎ In x (y ∷ ys)
in_first server epoch token x y ys deeper true e m = go (rw e at m)
  where
    go : In x (y ∷ placed server epoch token ys) → (x ≡ token) ⊎ In x (y ∷ ys)
    go (inl p) = inr (inl p)
    go (inr p) = elim (deeper p) [ inl q ↦ inl q | inr q ↦ inr (inr q) ]
in_first server epoch token x y ys deeper false e m = go (rw e at m)
  where
    go : In x (token ∷ y ∷ ys) → (x ≡ token) ⊎ In x (y ∷ ys)
    go (inl p) = inl p
    go (inr p) = inr p

pub in_placed : (server : ServerId) (epoch : ℕ) (token x : Token) (xs : List Token) → In x
    (placed server epoch token xs) → (x ≡ token) ⊎ In x xs
in_placed server epoch token x [] m = elim m [ inl p ↦ inl p | inr p ↦ inr p ]
in_placed server epoch token x (y ∷ ys) m = in_first server epoch token x y ys (in_placed server epoch token x ys)
    (comes_before server epoch y token) refl m

to_first : (server : ServerId) (epoch : ℕ) (token x y : Token) (ys : List Token) → ((x ≡ token) ⊎ In x ys → In x
    (placed server epoch token ys))
    → (b : Bool) → comes_before server epoch y token ≡ b → (x ≡ token) ⊎ In x (y ∷ ys) → In x
    (placed server epoch token (y ∷ ys))
to_first server epoch token x y ys deeper true e (inl p) = rw e (inr (deeper (inl p)))
to_first server epoch token x y ys deeper true e (inr (inl p)) = rw e (inl p)
to_first server epoch token x y ys deeper true e (inr (inr p)) = rw e (inr (deeper (inr p)))
to_first server epoch token x y ys deeper false e (inl p) = rw e (inl p)
to_first server epoch token x y ys deeper false e (inr p) = rw e (inr p)

pub to_placed : (server : ServerId) (epoch : ℕ) (token x : Token) (xs : List Token) → (x ≡ token) ⊎ In x xs → In x
    (placed server epoch token xs)
to_placed server epoch token x [] (inl p) = inl p
to_placed server epoch token x [] (inr p) = elim p [ ]
to_placed server epoch token x (y ∷ ys) p = to_first server epoch token x y ys (to_placed server epoch token x ys)
    (comes_before server epoch y token) refl p

abbrev claimed_note : Token → Note
claimed_note t = note_of t.host None

-- one token is claimed, whose number isn't granted, and of which nothing is noted
module _ (grants : Grants) (t : Token) (absent : has_id (tokens_of grants) t.id ≡ false) (unknown : is_some
    (note_at grants.notes t.id) ≡ false)
    (noted : (i : TokenId) → is_some (note_at grants.notes i) ≡ true → (u : Token) × In u (tokens_of grants) ×
    (u.id ≡ i)) where
  abbrev claimed : Grants
  claimed = record { table = with_token grants.table t; notes = with_note grants.notes t.id (claimed_note t) }

  new_note : note_at claimed.notes t.id ≡ Some (claimed_note t)
  new_note = with_note_at grants.notes t.id (claimed_note t) t.id ∙ ap (λ (b : Bool). cond b (Some (claimed_note t))
      (note_at grants.notes t.id)) (same_self t.id)

  old_note : (i : TokenId) → same_id t.id i ≡ false → note_at claimed.notes i ≡ note_at grants.notes i
  old_note i e = with_note_at grants.notes t.id (claimed_note t) i ∙ ap (λ (b : Bool). cond b (Some (claimed_note t))
      (note_at grants.notes i)) e

  is_admitted_one : IsAdmitted grants claimed (t ∷ [])
  is_admitted_one = record {
    server = refl;
    epoch = refl;
    last = refl;
    were = λ u m. elim (in_placed grants.table.server grants.table.epoch t u (tokens_of grants) m) [
      | inl e ↦
          inr (inl e)
      | inr k ↦ inl k
    ];
    stay = λ u m. to_placed grants.table.server grants.table.epoch t u (tokens_of grants) (inr m);
    put = λ u m. to_placed grants.table.server grants.table.epoch t u (tokens_of grants) (inl (one u m));
    same = λ i p. old_note i (elim (cases_Bool (same_id t.id i)) [
      | inl e ↦ absurd (false≢true (sym unknown ∙ subst (λ (z : TokenId). is_some (note_at grants.notes z) ≡ true)
          (sym (id_is t.id i e)) p))
      | inr e ↦ e
    ]);
    known = λ u m. subst (λ (z : Token). is_some (note_at claimed.notes z.id) ≡ true) (sym (one u m))
        (ap is_some new_note);
    unpinned = λ u m. subst (λ (z : Token). is_pinned claimed.notes z.id ≡ false) (sym (one u m))
        (ap (λ o. option_map_or (λ (note : Note). note.pinned) o false) new_note);
    unmarked = λ u m. subst (λ (z : Token). is_revoked claimed.notes z.id ≡ false) (sym (one u m))
        (ap (λ o. option_map_or (λ (note : Note). note.revoked) o false) new_note);
    noted = λ i p. elim (cases_Bool (same_id t.id i)) [
      | inl e ↦ (t, to_placed grants.table.server grants.table.epoch t t (tokens_of grants) (inl refl), id_is t.id i e)
      | inr e ↦ (let u = noted i (sym (ap is_some (old_note i e)) ∙ p) in
          (u.0, to_placed grants.table.server grants.table.epoch t u.0 (tokens_of grants) (inr u.1), u.2))
    ];
  }
    where
      one : (u : Token) → In u (t ∷ []) → u ≡ t
      one u (inl e) = e
      one u (inr e) = elim e [ ]

-- tokens whose numbers are new, each after those before it
abbrev pub AreNew : Grants → List Token → Type 0
AreNew grants [] = Unit {0}
AreNew grants (t ∷ ts) = (has_id (tokens_of grants) t.id ≡ false) × (is_some (note_at grants.notes t.id) ≡ false)
    × AreNew (with_claimed grants t) ts

-- what the manager's `admit` leaves
pub all_admitted : (grants : Grants) (tokens : List Token) → AreNew grants tokens
    → ((i : TokenId) → is_some (note_at grants.notes i) ≡ true → (u : Token) × In u (tokens_of grants) × (u.id ≡ i))
    → IsAdmitted grants (with_claims grants tokens) tokens
all_admitted grants [] new noted = record {
  server = refl;
  epoch = refl;
  last = refl;
  were = λ t m. inl m;
  stay = λ t m. m;
  put = λ t m. elim m [ ];
  same = λ i p. refl;
  known = λ t m. elim m [ ];
  unpinned = λ t m. elim m [ ];
  unmarked = λ t m. elim m [ ];
  noted = noted;
}
all_admitted grants (t ∷ ts) new noted =
    let a : IsAdmitted grants (with_claimed grants t) (t ∷ []) = subst (λ (b : Bool). IsAdmitted grants
    (if b then grants else claimed grants t new.0 new.1 noted) (t ∷ [])) (sym new.0)
    (is_admitted_one grants t new.0 new.1 noted) in
    let b = all_admitted (with_claimed grants t) ts new.2 a.noted in
    record {
      server = b.server ∙ a.server;
      epoch = b.epoch ∙ a.epoch;
      last = b.last ∙ a.last;
      were = λ u m. elim (b.were u m) [
        | inl k ↦ elim (a.were u k) [
          | inl p ↦ inl p
          | inr p ↦ inr (elim p [
            | inl e ↦
                inl e
            | inr e ↦ elim e [ ]
          ])
        ]
        | inr k ↦ inr (inr k)
      ];
      stay = λ u m. b.stay u (a.stay u m);
      put = λ u m. elim m [ inl e ↦ b.stay u (a.put u (inl e)) | inr k ↦ b.put u k ];
      same = λ i p. b.same i (ap is_some (a.same i p) ∙ p) ∙ a.same i p;
      known = λ u m. elim m [
        | inl e ↦ ap is_some (b.same u.id (a.known u (inl e))) ∙ a.known u (inl e)
        | inr k ↦
            b.known u k
      ];
      unpinned = λ u m. elim m [
        | inl e ↦ ap (λ o. option_map_or (λ (note : Note). note.pinned) o false) (b.same u.id
            (a.known u (inl e))) ∙ a.unpinned u (inl e)
        | inr k ↦ b.unpinned u k
      ];
      unmarked = λ u m. elim m [
        | inl e ↦ ap (λ o. option_map_or (λ (note : Note). note.revoked) o false) (b.same u.id
            (a.known u (inl e))) ∙ a.unmarked u (inl e)
        | inr k ↦ b.unmarked u k
      ];
      noted = b.noted;
    }
