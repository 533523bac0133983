-- What the manager's `returned` leaves, number by number.
use Rattle.std.proofs.Common.{◌≡◌, ◌==◌, Bool, true, false, not, cond, filter, is_some, if◌then◌else◌, None, Some}
use Rattle.std.proofs.Common.{List, [], ◌∷◌, inl, inr, sym, ◌∙◌, ap, subst, refl, eq-eqb}
use Rattle.std.specs.List.{find}
use Rattle.std.specs.Option.{option_map_or}
use Rattle.std.proofs.lemmas.Bool.{cases_Bool, false≢true}
use Rattle.base_types.specs.declared.ids.HostId.{HostId}
use Rattle.token_manager.specs.declared.grants.Grants.{Grants}
use Rattle.token_manager.specs.Grants.{holds, without_token}
use Rattle.token_manager.specs.Managers.{grants_returned}
use Rattle.token_manager.proofs.Noting.{same_self}
use Rattle.token_table.specs.Marks.{note_at, without_note}
use Rattle.token_table.proofs.Reading.{without_note_at}
use Rattle.token_table.specs.Tables.{without_id}
use Rattle.token_types.specs.Conflicts.{same_id}
use Rattle.token_types.specs.declared.token.Token.{Token}
use Rattle.token_types.specs.declared.token.TokenId.{TokenId}
use Rattle.run_rules.specs.Past.{In}
use Rattle.server_tables.specs.Standing.{tokens_of}
use Rattle.server_tables.proofs.Fetching.{same_host}
use Rattle.server_tables.proofs.Giving.{IsWithout}
use Rattle.server_tables.proofs.Granting.{id_is}

keep_first : {A : Type 0} (p : A → Bool) (x y : A) (ys : List A) → (In x (filter p ys) → In x ys × (p x ≡ true)) →
    (b : Bool) → p y ≡ b → In x (filter p (y ∷ ys)) → In x (y ∷ ys) × (p x ≡ true)
keep_first p x y ys deeper true h k = keep (rw h at k)
  where
    keep : In x (y ∷ filter p ys) → In x (y ∷ ys) × (p x ≡ true)
    keep (inl e) = (inl e, ap p e ∙ h)
    keep (inr i) = let r = deeper i in (inr r.0, r.1)
keep_first p x y ys deeper false h k = let i : In x (filter p ys) = rw h at k in let r = deeper i in (inr r.0, r.1)

pub in_filter : {A : Type 0} (p : A → Bool) (x : A) (xs : List A) → In x (filter p xs) → In x xs × (p x ≡ true)
in_filter p x [] m = elim m [ ]
in_filter p x (y ∷ ys) m = keep_first p x y ys (λ i. in_filter p x ys i) (p y) refl m

put_first : {A : Type 0} (p : A → Bool) (x y : A) (ys : List A) → In x (filter p ys) → (b : Bool) → p y ≡ b → In x
    (filter p (y ∷ ys))
put_first p x y ys i true h = rw h (inr i)
put_first p x y ys i false h = rw h i

pub to_filter : {A : Type 0} (p : A → Bool) (x : A) (xs : List A) → In x xs → p x ≡ true → In x (filter p xs)
to_filter p x [] m e = elim m [ ]
to_filter p x (y ∷ ys) (inl q) e = let h : p y ≡ true = sym (ap p q) ∙ e in rw h (inl q)
to_filter p x (y ∷ ys) (inr m) e = put_first p x y ys (to_filter p x ys m e) (p y) refl

-- of a number there is one token, and what is noted is there
pub record AreSingle (grants : Grants) : Type 0 where
  pub one : (t u : Token) → In t (tokens_of grants) → In u (tokens_of grants) → t.id ≡ u.id → t ≡ u
  pub noted : (i : TokenId) → is_some (note_at grants.notes i) ≡ true → (t : Token) × In t (tokens_of grants) ×
      (t.id ≡ i)

-- the token of a number is found
find_first : (x t : Token) (xs : List Token) → (In t xs → find (λ token. same_id token.id t.id) xs ≡ Some t) → In t
    (x ∷ xs) → (x.id ≡ t.id → x ≡ t) → (b : Bool) → same_id x.id t.id ≡ b → find (λ token. same_id token.id t.id)
    (x ∷ xs) ≡ Some t
find_first x t xs deeper m one true h = rw h (ap (λ z. Some z) (one (id_is x.id t.id h)))
find_first x t xs deeper m one false h = rw h (deeper (rest m))
  where
    rest : In t (x ∷ xs) → In t xs
    rest (inl e) = absurd (false≢true (sym h ∙ subst (λ (z : Token). same_id z.id t.id ≡ true) e (same_self t.id)))
    rest (inr k) = k

pub found_it : (tokens : List Token) (t : Token) → In t tokens → ((u v : Token) → In u tokens → In v tokens → u.id
    ≡ v.id → u ≡ v) → find (λ token. same_id token.id t.id) tokens ≡ Some t
found_it [] t m one = elim m [ ]
found_it (x ∷ xs) t m one = find_first x t xs (λ k. found_it xs t k (λ u v a b. one u v (inr a) (inr b))) m
    (λ e. one x t (inl refl) m e) (same_id x.id t.id) refl

module _ (grants : Grants) (host : HostId) (id : TokenId) (s : AreSingle grants) where
  held_is : (t : Token) → In t (tokens_of grants) → t.id ≡ id → holds grants host id ≡ (t.host.0 == host.0)
  held_is t m e = ap (λ o. option_map_or (λ (token : Token). token.host.0 == host.0) o false) (subst
      (λ (z : TokenId). find (λ token. same_id token.id z) (tokens_of grants) ≡ Some t) e (found_it
      (tokens_of grants) t m s.one))

  apart : (t : Token) → same_id t.id id ≡ false → same_id id t.id ≡ false
  apart t h = elim (cases_Bool (same_id id t.id)) [
    | inl k ↦ absurd (false≢true (sym h ∙ subst (λ (z : TokenId). same_id z id ≡ true) (id_is id t.id k)
        (same_self id)))
    | inr k ↦ k
  ]

  abbrev dropped : Grants
  dropped = without_token grants id

  drops : holds grants host id ≡ true → IsWithout grants dropped host (id ∷ [])
  drops h = record {
    server = refl;
    epoch = refl;
    last = refl;
    were = λ t m. (in_filter (λ token. not (same_id token.id id)) t (tokens_of grants) m).0;
    gone = λ t m k i. let r = (in_filter (λ token. not (same_id token.id id)) t (tokens_of grants) m).1 in
        off t r (elim i [ inl e ↦ e | inr e ↦ elim e [ ] ]);
    stay = λ t m k. to_filter (λ token. not (same_id token.id id)) t (tokens_of grants) m (elim (cases_Bool
        (same_id t.id id)) [
          | inl e ↦ absurd (let q = id_is t.id id e in k (same_host t.host host (sym (held_is t m q) ∙ h)) (inl q))
          | inr e ↦ ap not e
        ]);
    same = λ t m. let r = (in_filter (λ token. not (same_id token.id id)) t (tokens_of grants) m).1 in
        without_note_at grants.notes id t.id ∙ ap (λ (b : Bool). cond b None (note_at grants.notes t.id)) (apart t
        (flip (same_id t.id id) r));
    noted = noted;
  }
    where
      flip : (b : Bool) → not b ≡ true → b ≡ false
      flip true e = absurd (cc)
      flip false e = refl

      off : (t : Token) → not (same_id t.id id) ≡ true → t.id ≡ id → ⊥
      off t r e = false≢true (sym (flip (same_id t.id id) r) ∙ subst (λ (z : TokenId). same_id z id ≡ true) (sym e)
          (same_self id))

      noted : (i : TokenId) → is_some (note_at (without_note grants.notes id) i) ≡ true → (t : Token) × In t
          (without_id (tokens_of grants) id) × (t.id ≡ i)
      noted i p = elim (cases_Bool (same_id id i)) [
        | inl k ↦ absurd (let q = sym (ap is_some (without_note_at grants.notes id i ∙ ap (λ (b : Bool). cond b None
            (note_at grants.notes i)) k)) ∙ p in cc)
        | inr k ↦ (let u = s.noted i (sym (ap is_some (without_note_at grants.notes id i ∙ ap
            (λ (b : Bool). cond b None (note_at grants.notes i)) k)) ∙ p) in (
              u.0,
              to_filter (λ token. not (same_id token.id id)) u.0 (tokens_of grants) u.1 (elim (cases_Bool
                  (same_id u.0.id id)) [
                    | inl e ↦ absurd (false≢true (sym k ∙ subst (λ (z : TokenId). same_id id z ≡ true)
                        (sym (id_is u.0.id id e) ∙ u.2) (same_self id)))
                    | inr e ↦ ap not e
                  ]),
              u.2,
            ))
      ]

  keeps : holds grants host id ≡ false → IsWithout grants grants host (id ∷ [])
  keeps h = record {
    server = refl;
    epoch = refl;
    last = refl;
    were = λ t m. m;
    gone = λ t m k i. let e : t.id ≡ id = elim i [ inl q ↦ q | inr q ↦ elim q [ ] ] in
        false≢true (sym h ∙ (held_is t m e ∙ eq-eqb t.host.0 host.0 (ap (λ (z : HostId). z.0) k)));
    stay = λ t m k. m;
    same = λ t m. refl;
    noted = s.noted;
  }

  pub one_returned : IsWithout grants (grants_returned grants host id) host (id ∷ [])
  unfolding grants_returned
  one_returned = elim (cases_Bool (holds grants host id)) [
    | inl h ↦ subst (λ (b : Bool). IsWithout grants (if b then without_token grants id else grants) host (id ∷ []))
        (sym h) (drops h)
    | inr h ↦ subst (λ (b : Bool). IsWithout grants (if b then without_token grants id else grants) host (id ∷ []))
        (sym h) (keeps h)
  ]

-- all of them, one after the other
abbrev pub returning : Grants → HostId → List TokenId → Grants
returning grants host [] = grants
returning grants host (id ∷ ids) = returning (grants_returned grants host id) host ids

pub all_returned : (grants : Grants) (host : HostId) (ids : List TokenId) → AreSingle grants → IsWithout grants
    (returning grants host ids) host ids
all_returned grants host [] s = record {
  server = refl;
  epoch = refl;
  last = refl;
  were = λ t m. m;
  gone = λ t m k i. elim i [ ];
  stay = λ t m k. m;
  same = λ t m. refl;
  noted = s.noted;
}
all_returned grants host (id ∷ ids) s =
    let a = one_returned grants host id s in
    let b = all_returned (grants_returned grants host id) host ids (record {
      one = λ t u i j. s.one t u (a.were t i)
          (a.were u j);
      noted = a.noted;
    }) in
    record {
      server = b.server ∙ a.server;
      epoch = b.epoch ∙ a.epoch;
      last = b.last ∙ a.last;
      were = λ t m. a.were t (b.were t m);
      gone = λ t m k i. elim i [ inl e ↦ a.gone t (b.were t m) k (inl e) | inr e ↦ b.gone t m k e ];
      stay = λ t m k. b.stay t (a.stay t m (λ q i. k q (elim i [ inl e ↦ inl e | inr e ↦ elim e [ ] ]))) (λ q i. k q
          (inr i));
      same = λ t m. b.same t m ∙ a.same t (b.were t m);
      noted = b.noted;
    }
