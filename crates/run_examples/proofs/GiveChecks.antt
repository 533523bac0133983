-- The rules of give-backs and Revokes for a host's step, computed.
use Rattle.std.proofs.Common.{Bool, List, None, Option, Some, [], ap, arith, false, inl, inr, length, refl, subst}
use Rattle.std.proofs.Common.{suc, sym, true, zero}
use Rattle.std.proofs.Common.{if◌then◌else◌, ℕ, ◌&&◌, ◌+◌, ◌-◌, ◌||◌, ◌==◌, ◌∙◌, ◌∷◌, ◌≡◌, ◌≤◌, ◌<◌}
use Rattle.std.proofs.lemmas.Bool.{and_parts, and_from, or_cases, or_left, or_right, eqb-true, leb-true}
use Rattle.std.specs.Prelude.{not, flat_map, is_some, nat_le, slice_get}
use Rattle.std.specs.List.{list_all, list_any}
use Rattle.base_types.specs.Ids.{same_fid}
use Rattle.base_types.specs.declared.ids.Fid.{Fid}
use Rattle.base_types.specs.declared.ids.ServerId.{ServerId}
use Rattle.tree_calls.specs.declared.part.Piece.{Piece}
use Rattle.token_types.specs.Conflicts.{same_id}
use Rattle.token_types.specs.declared.token.Token.{Token}
use Rattle.token_types.specs.declared.token.TokenId.{TokenId}
use Rattle.message_types.specs.declared.giving.Ends.{Ends}
use Rattle.message_types.specs.declared.giving.Give.{Give}
use Rattle.message_types.specs.declared.message.Body.{Body}
use Rattle.message_types.specs.declared.message.Body.TheVariants.{GiveBack, Returned, Revoke}
use Rattle.tree_laws.specs.Parts.Part.{ByteAt, Size}
use Rattle.run_rules.specs.HostDue.{AnswersOf, HasDirty, RevokeDue}
use Rattle.run_rules.specs.HostTokens.{DirtyLength, HostGives, HostRevoked, HostTokens, OwnsUpdate}
use Rattle.run_rules.specs.Messages.{About, ReturnsToken, SendsTo, Stay, epoch_at, stay_of}
use Rattle.run_rules.specs.Past.{In}
use Rattle.run_rules.specs.Tokens.{FreesPinned, Held, IsKnown, IsOpen, Made, TokenInUse, end_of, number_of}
use Rattle.run_rules.specs.Views.{UpdatesByte, byte_in, byte_of, is_dirty, sees}
use Rattle.message_types.specs.Soundness.{Each as EachSound, PiecesRise}
use Rattle.message_types.specs.declared.message.Message.{Message}
use Rattle.message_types.specs.declared.tokens.Revoke.{Revoke as RevokeOf}
use Rattle.run_rules.specs.declared.step.Asked.{Asked}
use Rattle.run_rules.specs.declared.step.Labelled.{Labelled}
use Rattle.run_rules.specs.declared.step.Step.{Step}
use Rattle.run_examples.proofs.Tests.{AllTrue, passes, all_true, implies, so, is_not, not_is, at_all, some_in, any_of}
use Rattle.run_examples.proofs.Tests.{apart}
use Rattle.run_examples.proofs.Tests.{in_front, in_back, same_fileset, fileset_is, fid_is, fids}
use Rattle.run_examples.proofs.Tests.{id_is, ids, is_none}
use Rattle.run_examples.proofs.Tests.{only_one, same_token, token_is, same_length, length_is, same_give}
use Rattle.run_examples.proofs.Tests.{give_is}
use Rattle.run_examples.proofs.Tests.{same_end, end_is}
use Rattle.run_examples.proofs.Words.{made, made_in, in_made, is_known, known_is, hand, hand_in, in_hand}
use Rattle.run_examples.proofs.Words.{at_comes, at_sends, by_message, held, held_in, in_held}
use Rattle.run_examples.proofs.Words.{holds_id, holds_yes, holds_is, owned, owned_in, in_owned, is_first, first_yes}
use Rattle.run_examples.proofs.Words.{first_is}
use Rattle.run_examples.proofs.Words.{recalled, is_recalled, recalled_in, returned, in_returned, returned_in}
use Rattle.run_examples.proofs.Words.{gives_it, gives_yes}
use Rattle.run_examples.proofs.Words.{kept_now, in_kept, kept_in}
use Rattle.run_examples.proofs.TokenChecks.{is_place, place_is}
use Rattle.run_examples.proofs.LabelWords.{in_use, used_in, frees, frees_yes, gives_use, gives_use_yes}
use Rattle.run_examples.proofs.LabelWords.{is_used, is_used_yes}
use Rattle.run_examples.proofs.LabelWords.{is_used_is, is_local}
use Rattle.run_examples.proofs.CallWords.{open_calls, in_open, the_call}
use Rattle.run_examples.proofs.DirtWords.{range, in_range, spots, dirty_in, updates_byte, updates_yes, updates_is}
use Rattle.run_examples.proofs.DirtWords.{byte_dirty}
use Rattle.run_examples.proofs.DirtWords.{byte_dirty_yes, byte_dirty_is, length_dirty, length_dirty_yes}
use Rattle.run_examples.proofs.DirtWords.{length_dirty_is}

-- where the bytes of pieces lie
unfoldable pub positions : List Piece → List ℕ
positions pieces = flat_map (λ piece. range piece.from (length piece.bytes)) pieces

got_below : {A : Type 0} (xs : List A) (i : ℕ) (x : A) → slice_get xs i ≡ Some x → i < length xs
unfolding positions
got_below [] i x e = absurd (cc)
got_below (y ∷ ys) zero x e = omega arith
got_below (y ∷ ys) (suc i) x e = let p = got_below ys i x e in omega arith

byte_at_in : (piece : Piece) (at x : ℕ) → byte_in piece at ≡ Some x → In at (range piece.from (length piece.bytes))
unfolding positions
byte_at_in piece at x e = go (nat_le piece.from at) refl e
  where
    go : (b : Bool) → nat_le piece.from at ≡ b → (if b then slice_get piece.bytes (at - piece.from) else None) ≡ Some x
        → In at (range piece.from (length piece.bytes))
    go true t e =
        let low : piece.from ≤ at = leb-true piece.from at t in
        let up : at - piece.from < length piece.bytes = got_below piece.bytes (at - piece.from) x e in
        in_range (length piece.bytes) piece.from at low (omega arith)
    go false t e = absurd (cc)

byte_of_in : (pieces : List Piece) (at x : ℕ) → byte_of pieces at ≡ Some x → In at (positions pieces)
unfolding positions
byte_of_in [] at x e = absurd (cc)
byte_of_in (piece ∷ pieces) at x e = go (is_some (byte_in piece at)) e (byte_of_in pieces at x)
  where
    go : (b : Bool) → (if b then byte_in piece at else byte_of pieces at) ≡ Some x
        → (byte_of pieces at ≡ Some x → In at (positions pieces)) → In at (positions (piece ∷ pieces))
    go true e more = in_front at (range piece.from (length piece.bytes)) (positions pieces) (byte_at_in piece at x e)
    go false e more = in_back at (range piece.from (length piece.bytes)) (positions pieces) (more e)

unfoldable pub owns_update : List Step → Fid → ℕ → Bool
owns_update past fid at = list_any (λ t. updates_byte t fid at) (owned past)

owns_yes : (past : List Step) (fid : Fid) (at : ℕ) → owns_update past fid at ≡ true → OwnsUpdate past fid at
unfolding positions owns_update
owns_yes past fid at e =
    let p = some_in (λ t. updates_byte t fid at) (owned past) e in
    (p.0, in_owned past p.0 p.1, updates_yes p.0 fid at p.2)

owns_is : (past : List Step) (fid : Fid) (at : ℕ) → OwnsUpdate past fid at → owns_update past fid at ≡ true
unfolding positions owns_update
owns_is past fid at x = any_of (λ t. updates_byte t fid at) (owned past) x.0 (owned_in past x.0 x.1)
    (updates_is x.0 fid at x.2)

unfoldable pub gives_byte : Fid → ℕ → Give → Bool
gives_byte fid at g = same_fid g.fid fid && is_some (byte_of g.pieces at)

some_byte : (o : Option ℕ) → is_some o ≡ true → (x : ℕ) × (o ≡ Some x)
unfolding positions owns_update gives_byte
some_byte None e = absurd (cc)
some_byte (Some x) e = (x, refl)

unfoldable pub leaves_byte : List Step → Step → Give → ℕ → Token → Bool
leaves_byte past s g at t = list_any (same_id t.id) g.ids && (same_fid t.fid g.fid && byte_dirty past t at)

unfoldable pub byte_right : List Step → Step → Give → ℕ → Bool
byte_right past s g at =
    (list_any (leaves_byte past s g at) (hand s past) && same_length (byte_of g.pieces at) (Some (sees past s g.fid
    (ByteAt at))))
    && not (owns_update (s ∷ past) g.fid at)

unfoldable pub byte_saved : List Step → Step → Token → ℕ → Bool
byte_saved past s t at =
    implies (byte_dirty past t at)
    (owns_update (s ∷ past) t.fid at || list_any (gives_byte t.fid at) s.made)

unfoldable pub dirty_length : List Step → Step → Fid → Bool
dirty_length past s fid = list_any (λ t. same_fid t.fid fid && length_dirty past s t) (hand s past)

dirty_length_yes : (past : List Step) (s : Step) (fid : Fid) → dirty_length past s fid ≡ true → DirtyLength past s fid
unfolding positions owns_update gives_byte leaves_byte byte_right byte_saved dirty_length
dirty_length_yes past s fid e =
    let p = some_in (λ t. same_fid t.fid fid && length_dirty past s t) (hand s past) e in
    let q = and_parts (same_fid p.0.fid fid) (length_dirty past s p.0) p.2 in
    (p.0, in_hand s past p.0 p.1, fid_is p.0.fid fid q.0, length_dirty_yes past s p.0 q.1)

dirty_length_is : (past : List Step) (s : Step) (fid : Fid) → DirtyLength past s fid → dirty_length past s fid ≡ true
unfolding positions owns_update gives_byte leaves_byte byte_right byte_saved dirty_length
dirty_length_is past s fid x =
    any_of (λ t. same_fid t.fid fid && length_dirty past s t) (hand s past) x.0 (hand_in s past x.0 x.1)
    (and_from (same_fid x.0.fid fid) (length_dirty past s x.0) (fids x.0.fid fid x.2) (length_dirty_is past s x.0 x.3))

unfoldable pub has_seen : List Step → Step → Fid → Give → Bool
has_seen past s fid g = same_length g.length (Some (sees past s fid Size))

unfoldable pub takes_length : List Step → Step → Token → Give → Bool
takes_length past s t g = (same_fid g.fid t.fid && has_seen past s t.fid g) && list_any (same_id t.id) g.ids

unfoldable pub length_kept : List Step → Step → Token → Bool
length_kept past s t =
    implies (length_dirty past s t)
    (list_any (same_token t) (owned (s ∷ past)) || list_any (takes_length past s t) s.made)

unfoldable pub frees_by : List Step → Give → Ends → Labelled → Bool
frees_by past g ends u = frees past u && (same_end ends.call (end_of u) && list_any (same_id u.token.id) g.ids)

unfoldable pub is_call : Ends → Asked → Bool
is_call ends c = (c.k == ends.k) && same_end c.call ends.call

unfoldable pub ends_right : ServerId → List Step → Step → Give → Option Ends → Bool
ends_right site past s g None = true
ends_right site past s g (Some ends) =
    list_any (frees_by past g ends) (in_use past) && list_any (is_call ends) (open_calls site (s ∷ past))

unfoldable pub is_give : Give → Body → Bool
is_give g (GiveBack k) = same_give g k
is_give g _ = false

pub give_body : (g : Give) (b : Body) → is_give g b ≡ true → b ≡ GiveBack g
unfolding positions owns_update gives_byte leaves_byte byte_right byte_saved dirty_length has_seen takes_length
    length_kept frees_by is_call ends_right is_give
give_body g (GiveBack k) e = let p = give_is g k e in λ i. GiveBack (sym p i)
give_body g b e = absurd (cc)

unfoldable pub sends_give : List Step → Step → Give → Bool
sends_give now s g = list_any (λ m. is_place now g.fid.fileset m && is_give g m.body) s.sent

pub sends_give_yes : (now : List Step) (s : Step) (g : Give) → sends_give now s g ≡ true
    → SendsTo s (stay_of now g.fid.fileset) (GiveBack g)
unfolding positions owns_update gives_byte leaves_byte byte_right byte_saved dirty_length has_seen takes_length
    length_kept frees_by is_call ends_right is_give sends_give
sends_give_yes now s g e =
    let p = some_in (λ m. is_place now g.fid.fileset m && is_give g m.body) s.sent e in
    let q = and_parts (is_place now g.fid.fileset p.0) (is_give g p.0.body) p.2 in
    let at = place_is now g.fid.fileset p.0 q.0 in (
      p.0.epoch,
      (
        p.0,
        p.1,
        sym (ap (λ (x : Stay). x.server) at),
        refl,
        sym (ap (λ
            (x : Stay). x.moves) at),
        give_body g p.0.body q.1,
      ),
    )

unfoldable pub was_first : List Step → Give → Bool
was_first past g = list_any (same_give g) (made past) && is_first past g

unfoldable pub sent_right : List Step → Step → Give → Bool
sent_right past s g = implies (is_first (s ∷ past) g && not (was_first past g)) (sends_give (s ∷ past) s g)

unfoldable pub is_next : List Step → Step → Give → Bool
is_next past s g =
    (g.number == 1) || list_any (λ k. same_fileset k.fid.fileset g.fid.fileset && (suc k.number == g.number)) (made
    (s ∷ past))

unfoldable pub same_file : Give → Give → Bool
same_file g k = same_fid g.fid k.fid

unfoldable pub used_right : List Step → Give → Bool
used_right past g = list_all (λ u. implies (list_any (same_id u.token.id) g.ids) (gives_use g u)) (in_use past)

unfoldable pub length_right : List Step → Step → Give → Bool
length_right past s g = implies (is_some g.length) (dirty_length past s g.fid && has_seen past s g.fid g)

unfoldable pub length_too : List Step → Step → Give → Bool
length_too past s g = implies (dirty_length past s g.fid) (has_seen past s g.fid g)

-- pieces rise and don't overlap
abbrev pub pieces_rise : List Piece → Bool
pieces_rise [] = true
pieces_rise (piece ∷ pieces) =
    list_all (λ (later : Piece). nat_le (piece.from + length piece.bytes) later.from) pieces && pieces_rise pieces

ends_before : (n : ℕ) (pieces : List Piece) → list_all (λ (later : Piece). nat_le n later.from) pieces ≡ true
    → EachSound (λ (later : Piece). n ≤ later.from) pieces
ends_before n [] e = tt
ends_before n (piece ∷ pieces) e =
    let p = and_parts (nat_le n piece.from) (list_all (λ (later : Piece). nat_le n later.from) pieces) e in
    (leb-true n piece.from p.0, ends_before n pieces p.1)

rises : (pieces : List Piece) → pieces_rise pieces ≡ true → PiecesRise pieces
rises [] e = tt
rises (piece ∷ pieces) e =
    let test = λ (later : Piece). nat_le (piece.from + length piece.bytes) later.from in
    let p = and_parts (list_all test pieces) (pieces_rise pieces) e in
    (ends_before (piece.from + length piece.bytes) pieces p.0, rises pieces p.1)

unfoldable pub give_tests : ServerId → List Step → Step → List Bool
give_tests site past s =
    apart same_file s.made
    ∷ list_all (is_next past s) s.made
    ∷ list_all (λ g. list_all (byte_right past s g) (positions g.pieces)) s.made
    ∷ list_all (λ t. list_all (byte_saved past s t) (spots past t.fid)) (owned past)
    ∷ list_all (length_right past s) s.made
    ∷ list_all (length_too past s) s.made
    ∷ list_all (length_kept past s) (owned past)
    ∷ list_all (λ g. ends_right site past s g g.ends) s.made
    ∷ list_all (used_right past) s.made
    ∷ list_all (sent_right past s) (made (s ∷ past))
    ∷ is_local site (s ∷ past)
    ∷ list_all (λ g. not (is_none g.ids)) s.made
    ∷ list_all (λ g. pieces_rise g.pieces) s.made
    ∷ []

right_ends : (site : ServerId) (past : List Step) (s : Step) (g : Give) (o : Option Ends) (ends : Ends)
    → is_local site (s ∷ past) ≡ true
    → ends_right site past s g o ≡ true → o ≡ Some ends
    → ((u : Labelled) × FreesPinned past u × (ends.call ≡ end_of u) × In u.token.id g.ids)
    × IsOpen (s ∷ past) (record { k = ends.k; call = ends.call })
unfolding positions owns_update gives_byte leaves_byte byte_right byte_saved dirty_length has_seen takes_length
    length_kept frees_by is_call ends_right is_give sends_give was_first sent_right is_next same_file used_right
    length_right length_too give_tests
right_ends site past s g None ends local t e = absurd (cc)
right_ends site past s g (Some its) ends local t e =
    let same : its ≡ ends = cc in
    let p = and_parts (list_any (frees_by past g its) (in_use past)) (list_any (is_call its) (open_calls site (s
    ∷ past))) t in
    let q = some_in (frees_by past g its) (in_use past) p.0 in
    let r = and_parts (frees past q.0) (same_end its.call (end_of q.0) && list_any (same_id q.0.token.id) g.ids) q.2 in
    let a = and_parts (same_end its.call (end_of q.0)) (list_any (same_id q.0.token.id) g.ids) r.1 in
    let i = some_in (same_id q.0.token.id) g.ids a.1 in
    let c = some_in (is_call its) (open_calls site (s ∷ past)) p.1 in
    let d = and_parts (c.0.k == its.k) (same_end c.0.call its.call) c.2 in
    let open_ = in_open site (s ∷ past) c.0 local c.1 in
    let k = eqb-true c.0.k its.k d.0 in
    let call = end_is c.0.call its.call d.1 in (
      (
        q.0,
        frees_yes past q.0 r.0,
        ap (λ (x : Ends). x.call) (sym same) ∙ end_is its.call (end_of q.0) a.0,
        subst
            (λ x. In x g.ids) (sym (id_is q.0.token.id i.0 i.2)) i.1,
      ),
      subst (λ (x : Asked). IsOpen (s ∷ past) x) (λ j. the_call ((k ∙ ap (λ (x : Ends). x.k) same) j) ((call ∙ ap (λ
          (x : Ends). x.call) same) j)) open_,
    )

gives_from : (site : ServerId) (past : List Step) (s : Step) → AllTrue (give_tests site past s) → HostGives past s
unfolding positions owns_update gives_byte leaves_byte byte_right byte_saved dirty_length has_seen takes_length
    length_kept frees_by is_call ends_right is_give sends_give was_first sent_right is_next same_file used_right
    length_right length_too give_tests
gives_from site past s (
  one_,
  (
    next_,
    (
      bytes_,
      (
        saved_,
        (
          length_,
          (
            too_,
            (
              kept_,
              (
                ends_,
                (
                  used_,
                  (
                    sends_,
                    (local_, (names_, (rise_, _))),
                  ),
                ),
              ),
            ),
          ),
        ),
      ),
    ),
  ),
) = record {
  names = λ g m none. is_not (is_none g.ids) (at_all (λ (g : Give). not (is_none g.ids)) s.made g names_ m)
      (subst (λ xs. is_none xs ≡ true) (sym none) refl);
  rise = λ g m. rises g.pieces (at_all (λ (g : Give). pieces_rise g.pieces) s.made g rise_ m);
  one_a_file = λ g k m n f. only_one same_file s.made g k one_ m n (fids g.fid k.fid f);
  next = λ g m.
      elim (or_cases (g.number == 1) (list_any (λ k. same_fileset k.fid.fileset g.fid.fileset &&
      (suc k.number == g.number)) (made (s ∷ past))) (at_all (is_next past s) s.made g next_ m)) [
        | inl p ↦ inl (eqb-true g.number 1 p)
        | inr p ↦ (
            let q = some_in (λ k. same_fileset k.fid.fileset g.fid.fileset && (suc k.number == g.number)) (made (s
            ∷ past)) p in
            let r = and_parts (same_fileset q.0.fid.fileset g.fid.fileset) (suc q.0.number == g.number) q.2 in
            inr (
              q.0,
              in_made (s ∷ past) q.0 q.1,
              fileset_is q.0.fid.fileset g.fid.fileset r.0,
              eqb-true
                  (suc q.0.number) g.number r.1,
            )
            )
      ];
  bytes = λ g at x m e.
      let t = at_all (byte_right past s g) (positions g.pieces) at (at_all (λ g. list_all (byte_right past s g)
      (positions g.pieces)) s.made g bytes_ m) (byte_of_in g.pieces at x e) in
      let p = and_parts (list_any (leaves_byte past s g at) (hand s past) && same_length (byte_of g.pieces at) (Some
      (sees past s g.fid (ByteAt at)))) (not (owns_update (s ∷ past) g.fid at)) t in
      let q = and_parts (list_any (leaves_byte past s g at) (hand s past)) (same_length (byte_of g.pieces at) (Some
      (sees past s g.fid (ByteAt at)))) p.0 in
      let k = some_in (leaves_byte past s g at) (hand s past) q.0 in
      let r = and_parts (list_any (same_id k.0.id) g.ids) (same_fid k.0.fid g.fid && byte_dirty past k.0 at) k.2 in
      let u = and_parts (same_fid k.0.fid g.fid) (byte_dirty past k.0 at) r.1 in
      let i = some_in (same_id k.0.id) g.ids r.0 in
      let seen : Some (sees past s g.fid (ByteAt at)) ≡ Some x = sym (length_is (byte_of g.pieces at) (Some
      (sees past s g.fid (ByteAt at))) q.1) ∙ e in (
        (
          k.0,
          in_hand s past k.0 k.1,
          subst (λ x. In x g.ids) (sym
              (id_is k.0.id i.0 i.2)) i.1,
          fid_is k.0.fid g.fid u.0,
          byte_dirty_yes past k.0 at u.1,
        ),
        cc,
        λ o. is_not (owns_update (s ∷ past) g.fid at) p.1 (owns_is (s ∷ past) g.fid at o),
      );
  bytes_saved = λ fid at d o.
      let t = o.0 in
      let f : t.fid ≡ fid = o.2.1 in
      let dirty : byte_dirty past t at ≡ true = byte_dirty_is past t at (
        subst (λ x. UpdatesByte t x at)
            (sym f) o.2,
        subst (λ x. is_dirty past x at ≡ true) (sym f) d,
      ) in
      let e = so (byte_dirty past t at) (owns_update (s ∷ past) t.fid at || list_any (gives_byte t.fid at) s.made)
      (at_all (byte_saved past s t) (spots past t.fid) at (at_all (λ t. list_all (byte_saved past s t)
      (spots past t.fid)) (owned past) t saved_ (owned_in past t o.1)) (dirty_in past t.fid at (subst
      (λ x. is_dirty past x at ≡ true) (sym f) d))) dirty in
      elim (or_cases (owns_update (s ∷ past) t.fid at) (list_any (gives_byte t.fid at) s.made) e) [
        | inl p ↦ inl (subst (λ x. OwnsUpdate (s ∷ past) x at) f (owns_yes (s ∷ past) t.fid at p))
        | inr p ↦ (
            let q = some_in (gives_byte t.fid at) s.made p in
            let r = and_parts (same_fid q.0.fid t.fid) (is_some (byte_of q.0.pieces at)) q.2 in
            inr (q.0, q.1, (fid_is q.0.fid t.fid r.0 ∙ f, some_byte (byte_of q.0.pieces at) r.1))
            )
      ];
  length = λ g n m e.
      let t = so (is_some g.length) (dirty_length past s g.fid && has_seen past s g.fid g) (at_all
      (length_right past s) s.made g length_ m) (subst (λ o. is_some o ≡ true) (sym e) refl) in
      let p = and_parts (dirty_length past s g.fid) (has_seen past s g.fid g) t in
      let q : Some n ≡ Some (sees past s g.fid Size) = sym e ∙ length_is g.length (Some (sees past s g.fid Size)) p.1 in
      (dirty_length_yes past s g.fid p.0, cc);
  length_too = λ g m d.
      length_is g.length (Some (sees past s g.fid Size)) (so (dirty_length past s g.fid) (has_seen past s g.fid g)
      (at_all (length_too past s) s.made g too_ m) (dirty_length_is past s g.fid d));
  length_saved = λ t o d.
      elim (or_cases (list_any (same_token t) (owned (s ∷ past))) (list_any (takes_length past s t) s.made)
      (so (length_dirty past s t) (list_any (same_token t) (owned (s ∷ past)) || list_any
      (takes_length past s t) s.made) (at_all (length_kept past s) (owned past) t kept_ (owned_in past t o))
      (length_dirty_is past s t d))) [
        | inl p ↦ (let q = some_in (same_token t) (owned (s ∷ past)) p in inl (in_owned (s ∷ past) t (subst
            (λ x. In x (owned (s ∷ past))) (sym (token_is t q.0 q.2)) q.1)))
        | inr p ↦ (
            let q = some_in (takes_length past s t) s.made p in
            let r = and_parts (same_fid q.0.fid t.fid && has_seen past s t.fid q.0) (list_any
            (same_id t.id) q.0.ids) q.2 in
            let u = and_parts (same_fid q.0.fid t.fid) (has_seen past s t.fid q.0) r.0 in
            let i = some_in (same_id t.id) q.0.ids r.1 in
            inr (
              q.0,
              q.1,
              fid_is q.0.fid t.fid u.0,
              length_is q.0.length (Some (sees past s t.fid Size)) u.1,
              subst
                  (λ x. In x q.0.ids) (sym (id_is t.id i.0 i.2)) i.1,
            )
            )
      ];
  ends = λ g ends m e. right_ends site past s g g.ends ends local_ (at_all
      (λ g. ends_right site past s g g.ends) s.made g ends_ m) e;
  ends_used = λ g u m x i.
      gives_use_yes g u (so (list_any (same_id u.token.id) g.ids) (gives_use g u)
      (at_all (λ u. implies (list_any (same_id u.token.id) g.ids) (gives_use g u)) (in_use past) u (at_all
      (used_right past) s.made g used_ m) (used_in past u x))
      (any_of (same_id u.token.id) g.ids u.token.id i (ids u.token.id u.token.id refl)));
  sends = λ g out before up.
      sends_give_yes (s ∷ past) s g (so (is_first (s ∷ past) g && not (was_first past g)) (sends_give (s ∷ past) s g)
      (at_all (sent_right past s) (made (s ∷ past)) g sends_ (made_in (s ∷ past) g out.made))
      (and_from (is_first (s ∷ past) g) (not (was_first past g)) (first_is (s ∷ past) g out) (not_is
      (was_first past g) (λ e.
      let p = and_parts (list_any (same_give g) (made past)) (is_first past g) e in
      let q = some_in (same_give g) (made past) p.0 in
      before (first_yes past g (in_made past g (subst (λ x. In x (made past)) (sym
      (give_is g q.0 q.2)) q.1)) p.1)))));
}

pub gives_meet : (site : ServerId) (past : List Step) (s : Step) → passes (give_tests site past s) ≡ true
    → HostGives past s
unfolding positions owns_update gives_byte leaves_byte byte_right byte_saved dirty_length has_seen takes_length
    length_kept frees_by is_call ends_right is_give sends_give was_first sent_right is_next same_file used_right
    length_right length_too give_tests
gives_meet site past s e = gives_from site past s (all_true (give_tests site past s) e)

-- Revokes
unfoldable pub left_dirty : List Step → Step → Token → ℕ → Bool
left_dirty past s t at = byte_dirty past t at && not (owns_update (s ∷ past) t.fid at)

unfoldable pub has_dirty : List Step → Step → Token → Bool
has_dirty past s t = list_any (left_dirty past s t) (spots past t.fid) || length_dirty past s t

has_dirty_is : (past : List Step) (s : Step) (t : Token) → HasDirty past s t → has_dirty past s t ≡ true
unfolding positions owns_update gives_byte leaves_byte byte_right byte_saved dirty_length has_seen takes_length
    length_kept frees_by is_call ends_right is_give sends_give was_first sent_right is_next same_file used_right
    length_right length_too give_tests left_dirty has_dirty
has_dirty_is past s t (inl (at, d, o)) =
    or_left (list_any (left_dirty past s t) (spots past t.fid)) (length_dirty past s t)
    (any_of (left_dirty past s t) (spots past t.fid) at (dirty_in past t.fid at d.1)
    (and_from (byte_dirty past t at) (not (owns_update (s ∷ past) t.fid at)) (byte_dirty_is past t at d)
    (not_is (owns_update (s ∷ past) t.fid at) (λ e. o (owns_yes (s ∷ past) t.fid at e)))))
has_dirty_is past s t (inr d) =
    or_right (list_any (left_dirty past s t) (spots past t.fid)) (length_dirty past s t) (length_dirty_is past s t d)

has_dirty_yes : (past : List Step) (s : Step) (t : Token) → has_dirty past s t ≡ true → HasDirty past s t
unfolding positions owns_update gives_byte leaves_byte byte_right byte_saved dirty_length has_seen takes_length
    length_kept frees_by is_call ends_right is_give sends_give was_first sent_right is_next same_file used_right
    length_right length_too give_tests left_dirty has_dirty
has_dirty_yes past s t e =
    elim (or_cases (list_any (left_dirty past s t) (spots past t.fid)) (length_dirty past s t) e) [
      | inl p ↦ (
          let q = some_in (left_dirty past s t) (spots past t.fid) p in
          let r = and_parts (byte_dirty past t q.0) (not (owns_update (s ∷ past) t.fid q.0)) q.2 in
          inl (
            q.0,
            byte_dirty_yes past t q.0 r.0,
            λ o. is_not (owns_update (s ∷ past) t.fid q.0) r.1 (owns_is (s
                ∷ past) t.fid q.0 o),
          )
          )
      | inr p ↦ inr (length_dirty_yes past s t p)
    ]

unfoldable pub is_dirty_id : List Step → Step → TokenId → Token → Bool
is_dirty_id past s i t = same_id t.id i && has_dirty past s t

unfoldable pub is_on_way : List Step → TokenId → Give → Bool
is_on_way past i g = list_any (same_id i) g.ids && not (is_known past (number_of g))

unfoldable pub stays_back : List Step → Step → TokenId → Bool
stays_back past s i =
    is_used past i || (list_any (is_dirty_id past s i) (held past) || list_any (is_on_way past i) (made past))

unfoldable pub gives_again : List Step → Step → TokenId → Give → Bool
gives_again past s i g = implies (is_first past g && list_any (same_id i) g.ids) (sends_give (s ∷ past) s g)

unfoldable pub revoke_tests : List Step → Step → TokenId → List Bool
revoke_tests past s i =
    implies (holds_id past i && is_used past i) (list_any (same_id i) (kept_now s))
    ∷ implies (list_any (is_dirty_id past s i) (held past)) (gives_it s i)
    ∷ list_all (gives_again past s i) (made past)
    ∷ (stays_back past s i || list_any (same_id i) (returned s))
    ∷ []

-- ids that aren't held are returned for the Revoke's file
abbrev pub returned_file : List Step → RevokeOf → Body → Bool
returned_file past r (Returned named) = list_all (λ i. holds_id past i || same_fid named.fid r.fid) named.ids
returned_file past r _ = true

abbrev pub revoke_files : List Step → Step → Body → Bool
revoke_files past s (Revoke r) = list_all (λ m. returned_file past r m.body) s.sent
revoke_files past s _ = true

file_returned : (past : List Step) (s : Step) → HostTokens past s
    → by_message true (λ m. revoke_files past s m.body) s.cause ≡ true → (r : RevokeOf) (i : TokenId)
    → About past s r.fid.fileset (Revoke r) → (fid : Fid) → AnswersOf past r i fid → (x : ReturnsToken s i) → x.3.fid ≡ fid
file_returned past s may t r i about fid (inl (k, held_, id, file)) (v, e, n, named, sends, m) =
    sym (may.answers_file named v e n k (inl sends) (inr held_) (subst (λ x. In x named.ids) (sym id) m)) ∙ file
file_returned past s may t r i about fid (inr (none, is)) (v, e, n, named, sends, m) =
    let place_ = stay_of past r.fid.fileset in
    let all_ = at_comes (λ m. revoke_files past s m.body) s place_.server (epoch_at past place_.server) place_.moves
    (Revoke r) t about in
    let its = at_sends (λ m. returned_file past r m.body) s v e n (Returned named) all_ sends in
    elim (or_cases (holds_id past i) (same_fid named.fid r.fid)
    (at_all (λ i. holds_id past i || same_fid named.fid r.fid) named.ids i its m)) [
      | inl x ↦ absurd (none (holds_yes past i x))
      | inr x ↦ fid_is named.fid r.fid x ∙ is
    ]

revoke_from : (past : List Step) (s : Step) (r : RevokeOf) (i : TokenId)
    → ((fid : Fid) → AnswersOf past r i fid → (x : ReturnsToken s i) → x.3.fid ≡ fid)
    → AllTrue (revoke_tests past s i) → RevokeDue past s r i
unfolding positions owns_update gives_byte leaves_byte byte_right byte_saved dirty_length has_seen takes_length
    length_kept frees_by is_call ends_right is_give sends_give was_first sent_right is_next same_file used_right
    length_right length_too give_tests left_dirty has_dirty is_dirty_id is_on_way stays_back gives_again revoke_tests
revoke_from past s r i of_file (keeps_, (gives_, (again_, (returns_, _)))) = record {
  keeps = λ h u.
      let p = some_in (same_id i) (kept_now s) (so (holds_id past i && is_used past i) (list_any (same_id i)
      (kept_now s)) keeps_ (and_from (holds_id past i) (is_used past i) (holds_is past i h)
      (is_used_is past i u))) in
      in_kept s i (subst (λ x. In x (kept_now s)) (sym (id_is i p.0 p.2)) p.1);
  gives = λ t h is d.
      gives_yes s i (so (list_any (is_dirty_id past s i) (held past)) (gives_it s i) gives_
      (any_of (is_dirty_id past s i) (held past) t (held_in past t h) (and_from (same_id t.id i) (has_dirty past s t)
      (ids t.id i is) (has_dirty_is past s t d))));
  gives_again = λ g out m.
      sends_give_yes (s ∷ past) s g (so (is_first past g && list_any (same_id i) g.ids) (sends_give (s ∷ past) s g)
      (at_all (gives_again past s i) (made past) g again_ (made_in past g out.made))
      (and_from (is_first past g) (list_any (same_id i) g.ids) (first_is past g out) (any_of (same_id i) g.ids i m
      (ids i i refl))));
  returns = λ fid at unused clean known_.
      elim (or_cases (stays_back past s i) (list_any (same_id i) (returned s)) returns_) [
        | inl p ↦ absurd (stays unused clean known_ p)
        | inr p ↦ (
            let q = some_in (same_id i) (returned s) p in
            let x = in_returned s i (subst (λ x. In x (returned s)) (sym (id_is i q.0 q.2)) q.1) in
            (x.0, x.1, x.2, x.3, x.4, of_file fid at x, x.5)
            )
      ];
}
  where
    stays : (TokenInUse past i → ⊥) → ((t : Token) → Held past t → t.id ≡ i → HasDirty past s t → ⊥)
        → ((g : Give) → Made past g → In i g.ids → IsKnown past g) → stays_back past s i ≡ true → ⊥
    stays unused clean known_ e =
        elim (or_cases (is_used past i) (list_any (is_dirty_id past s i) (held past) || list_any (is_on_way past i)
        (made past)) e) [
          | inl p ↦ unused (is_used_yes past i p)
          | inr p ↦
              elim (or_cases (list_any (is_dirty_id past s i) (held past)) (list_any (is_on_way past i)
              (made past)) p) [
                | inl x ↦ (
                    let q = some_in (is_dirty_id past s i) (held past) x in
                    let r = and_parts (same_id q.0.id i) (has_dirty past s q.0) q.2 in
                    clean q.0 (in_held past q.0 q.1) (id_is q.0.id i r.0) (has_dirty_yes past s q.0 r.1)
                    )
                | inr x ↦ (
                    let q = some_in (is_on_way past i) (made past) x in
                    let r = and_parts (list_any (same_id i) q.0.ids) (not (is_known past (number_of q.0))) q.2 in
                    let k = some_in (same_id i) q.0.ids r.0 in
                    is_not (is_known past (number_of q.0)) r.1 (known_is past (number_of q.0) (known_ q.0
                    (in_made past q.0 q.1) (subst (λ x. In x q.0.ids) (sym (id_is i k.0 k.2)) k.1)))
                    )
              ]
        ]

unfoldable pub kept_right : List Step → Step → TokenId → Bool
kept_right past s i = holds_id (s ∷ past) i && (is_used (s ∷ past) i && list_any (same_id i) (recalled past s.cause))

unfoldable pub recall_tests : List Step → Step → List Bool
recall_tests past s =
    list_all (λ i. passes (revoke_tests past s i)) (recalled past s.cause)
    ∷ list_all (kept_right past s) (kept_now s)
    ∷ list_all (λ i. not (is_used past i)) (returned s)
    ∷ by_message true (λ m. revoke_files past s m.body) s.cause
    ∷ []

pub revoked_meet : (past : List Step) (s : Step) → passes (recall_tests past s) ≡ true → HostRevoked past s
unfolding positions owns_update gives_byte leaves_byte byte_right byte_saved dirty_length has_seen takes_length
    length_kept frees_by is_call ends_right is_give sends_give was_first sent_right is_next same_file used_right
    length_right length_too give_tests left_dirty has_dirty is_dirty_id is_on_way stays_back gives_again revoke_tests
    kept_right recall_tests
revoked_meet past s e =
    let t = all_true (recall_tests past s) e in
    record {
      keeps = λ i k.
          let p = and_parts (holds_id (s ∷ past) i) (is_used (s ∷ past) i && list_any (same_id i)
          (recalled past s.cause)) (at_all (kept_right past s) (kept_now s) i t.1.0 (kept_in s i k)) in
          let q = and_parts (is_used (s ∷ past) i) (list_any (same_id i) (recalled past s.cause)) p.1 in
          (holds_yes (s ∷ past) i p.0, is_used_yes (s ∷ past) i q.0, is_recalled past s i q.1);
      returns_idle = λ i r u. is_not (is_used past i) (at_all (λ i. not (is_used past i)) (returned s) i t.1.1.0
          (returned_in s i r)) (is_used_is past i u);
    }

pub revokes_due : (past : List Step) (s : Step) → HostTokens past s → passes (recall_tests past s) ≡ true
    → (r : RevokeOf) (i : TokenId) → About past s r.fid.fileset (Revoke r) → In i r.ids → RevokeDue past s r i
unfolding recall_tests
revokes_due past s may e r i c m =
    let t = all_true (recall_tests past s) e in
    revoke_from past s r i (file_returned past s may t.1.1.1.0 r i c) (all_true (revoke_tests past s i)
    (at_all (λ i. passes (revoke_tests past s i)) (recalled past s.cause) i t.0 (recalled_in past s r i c m)))
