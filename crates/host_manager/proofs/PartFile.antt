-- Some tokens leave that are asked back, file by file: which files are lost by the next one.
use Rattle.base_types.specs.Ids.{same_fid}
use Rattle.base_types.specs.declared.ids.Fid.{Fid}
use Rattle.base_types.specs.declared.ids.FilesetId.{FilesetId}
use Rattle.base_types.specs.declared.limits.TheConstants.{FILE_BYTES_MAX}
use Rattle.host_cache.specs.Holding.{is_status, tokens_of}
use Rattle.host_cache.specs.Seen.{seen, Kept}
use Rattle.host_cache.specs.declared.held.Held.{Held}
use Rattle.host_leaves.specs.Dirtying.{is_named}
use Rattle.host_leaves.specs.Giving.{Leaves, shown_without}
use Rattle.host_leaves.specs.Revoking.{covers_status, is_lost, of_file, with_lost, with_lost_where}
use Rattle.host_manager.proofs.LeftBy.{stays_of, left_by}
use Rattle.host_manager.proofs.LeftFile.{alike, in_last, last_or}
use Rattle.host_manager.proofs.LeftSo.{OnceSo, start_by}
use Rattle.host_manager.proofs.PartSo.{HasParted, PartLost, PartSaid, PartSo, held_from, kept}
use Rattle.host_tables.proofs.Lists.{any_in, by_test, false_not, fid_same, filter_in, in_any, in_filter, in_left}
use Rattle.host_tables.proofs.Lists.{in_map, map_in, same_fid_is, same_id_is, true_false, true_not, not_false}
use Rattle.host_tables.specs.LeavingSteps.{Left, with_left}
use Rattle.host_tables.specs.Tables.{content, held_of}
use Rattle.host_tables.specs.declared.draft.Draft.{Draft}
use Rattle.host_tables.specs.declared.tables.Tables.{Tables}
use Rattle.message_types.specs.declared.giving.Give.{Give}
use Rattle.message_types.specs.declared.message.Body.TheVariants.{Returned}
use Rattle.message_types.specs.declared.message.Message.{Message}
use Rattle.message_types.specs.declared.tokens.Named.{Named}
use Rattle.run_rules.specs.Past.{EachOnce, In}
use Rattle.run_rules.specs.declared.applied.Why.TheVariants.{Revoked}
use Rattle.std.proofs.Common.{Bool, List, [], ap, false, if◌then◌else◌, inl, inr, is_some, not, refl, subst, sym, true}
use Rattle.std.proofs.Common.{ℕ, ◌&&◌, ◌++◌, ◌∙◌, ◌∷◌, ◌≡◌, ◌≤◌, ◌⊎◌}
use Rattle.std.proofs.lemmas.Bool.{and_from, and_parts}
use Rattle.std.specs.List.{list_any}
use Rattle.token_types.specs.Conflicts.{same_id}
use Rattle.token_types.specs.declared.token.Token.{Token}
use Rattle.token_types.specs.declared.token.TokenId.{TokenId}
use Rattle.tree_laws.specs.Parts.Part.{ByteAt}
use Rattle.host_manager.proofs.NextFile as next_file

-- # Files that are lost
lost_has : (fid : Fid) (lost : List Fid) → In fid (with_lost fid lost)
lost_has fid lost = by_here (list_any (λ (other : Fid). same_fid other fid) lost) refl
  where
    by_here : (b : Bool) → list_any (λ (other : Fid). same_fid other fid) lost ≡ b
        → In fid (if b then lost else lost ++ fid ∷ [])
    by_here true e =
        let r = in_any (λ (other : Fid). same_fid other fid) lost e in
        subst (λ (z : Fid). In z lost) (same_fid_is r.0 fid r.2) r.1
    by_here false e = in_last lost fid

lost_keeps : (fid : Fid) (lost : List Fid) (f : Fid) → In f lost → In f (with_lost fid lost)
lost_keeps fid lost f i = by_here (list_any (λ (other : Fid). same_fid other fid) lost)
  where
    by_here : (b : Bool) → In f (if b then lost else lost ++ fid ∷ [])
    by_here true = i
    by_here false = in_left lost (fid ∷ []) f i

lost_or : (fid : Fid) (lost : List Fid) (f : Fid) → In f (with_lost fid lost) → In f lost ⊎ (f ≡ fid)
lost_or fid lost f i = by_here (list_any (λ (other : Fid). same_fid other fid) lost) i
  where
    by_here : (b : Bool) → In f (if b then lost else lost ++ fid ∷ []) → In f lost ⊎ (f ≡ fid)
    by_here true j = inl j
    by_here false j = last_or lost fid f j

-- # The next file
module _ (m : Tables) (once : (t u : Token) → In t (held_of m) → In u (held_of m) → t.id ≡ u.id → t ≡ u)
    (tells : (h : Held) → In h m.cache.held → is_status h.token.kind ≡ true → h.tells ≡ true)
    (zero : (fid : Fid) (at : ℕ) → FILE_BYTES_MAX ≤ at → content m.cache fid (ByteAt at) ≡ 0)
    (tokens : List Token) (their : (t : Token) → In t tokens → In t (held_of m)) (first : List Message)
    (asked : Fid) (all_back now_back : List TokenId) (l : Left) (lost : List Fid) (fids : List Fid)
    (gone : List Token) (made : List Give) (so : PartSo m tokens l fids gone made) (sent : List Message)
    (due : List FilesetId) (saying_so : PartSaid m first asked all_back fids gone made sent due)
    (losing : PartLost m tokens l fids lost) (each : OnceSo m gone made sent due) (tokens_once : EachOnce tokens)
    (plain_first : (y : Message) → In y first → (w : Named) → y.body ≡ Returned w → ⊥)
    (fid : Fid) (fresh : In fid fids → ⊥) (backs : (i : TokenId) → In i now_back → In i all_back × (fid ≡ asked))
    (now_all : asked ≡ fid → (i : TokenId) → In i all_back → In i now_back) where
  abbrev pub x : Tables
  x = record (with_left m l) { lost = lost }

  abbrev pub more : List Fid
  more = fids ++ fid ∷ []

  abbrev leaving : List Token
  leaving = of_file fid tokens

  from_of : (t : Token) → In t (held_of x) → In t (held_of m)
  from_of t i = (held_from m once tells zero tokens their l fids gone made so t i).0

  left_from : (t : Token) → In t leaving → In t (held_of m) × (t.fid ≡ fid)
  left_from t i =
      let f = in_filter (λ (token : Token). same_fid token.fid fid) tokens t i in
      (their t f.0, same_fid_is t.fid fid f.1)

  -- # Which files lose their status
  abbrev lost_by : Tables → List Fid
  lost_by between = if is_lost fid leaving between then with_lost fid lost else lost

  lost_tables : (z : Left) → with_lost_where fid leaving (record (with_left m z) { lost = lost })
      ≡ record (with_left m z) { lost = lost_by (record (with_left m z) { lost = lost }) }
  lost_tables z = by_lost (is_lost fid leaving (record (with_left m z) { lost = lost }))
    where
      by_lost : (b : Bool) → (if b then record (with_left m z) { lost = with_lost fid lost }
          else record (with_left m z) { lost = lost })
          ≡ record (with_left m z) { lost = if b then with_lost fid lost else lost }
      by_lost true = refl
      by_lost false = refl

  -- the status of a file that has left before is covered as before
  status_kept : (cache : Kept) → seen cache ≡ shown_without (seen l.cache) leaving → (f : Fid) → (f ≡ fid → ⊥)
      → covers_status f (tokens_of cache.held) ≡ covers_status f (tokens_of l.cache.held)
  status_kept cache shown f other =
      let k = left_by l.cache cache leaving shown
      (λ h i e. tells h (in_kept h i) e)
      (λ g at le. (kept m once tells zero tokens their l fids gone made so).beyond g at le ∙ zero g at le) in
      alike (covers_status f (tokens_of cache.held)) (covers_status f (tokens_of l.cache.held))
      (λ e.
      let r = in_any (λ (t : Token). same_fid t.fid f && is_status t.kind) (tokens_of cache.held) e in
      let h = in_map (λ (h : Held). h.token) cache.held r.0 r.1 in
      let q = in_filter (stays_of leaving) l.cache.held h.0 (subst (λ (hs : List Held). In h.0 hs) k.held h.1) in
      any_in (λ (t : Token). same_fid t.fid f && is_status t.kind) (tokens_of l.cache.held) r.0
      (subst (λ (t : Token). In t (tokens_of l.cache.held)) (sym h.2)
      (map_in (λ (h : Held). h.token) l.cache.held h.0 q.0)) r.2)
      (λ e.
      let r = in_any (λ (t : Token). same_fid t.fid f && is_status t.kind) (tokens_of l.cache.held) e in
      let h = in_map (λ (h : Held). h.token) l.cache.held r.0 r.1 in
      let at = same_fid_is r.0.fid f (and_parts (same_fid r.0.fid f) (is_status r.0.kind) r.2).0 in
      let stays : stays_of leaving h.0 ≡ true =
      true_not (is_named leaving h.0.token) (λ n.
      let v = in_any (λ (t : Token). same_id t.id h.0.token.id) leaving n in
      let here = from_of r.0 r.1 in
      let same : v.0 ≡ r.0 = once v.0 r.0 (left_from v.0 v.1).0 here
      (same_id_is v.0.id h.0.token.id v.2 ∙ ap (λ (t : Token). t.id) (sym h.2)) in
      other (sym at ∙ ap (λ (t : Token). t.fid) (sym same) ∙ (left_from v.0 v.1).1)) in
      any_in (λ (t : Token). same_fid t.fid f && is_status t.kind) (tokens_of cache.held) r.0
      (subst (λ (t : Token). In t (tokens_of cache.held)) (sym h.2)
      (map_in (λ (h : Held). h.token) cache.held h.0 (subst (λ (hs : List Held). In h.0 hs) (sym k.held)
      (filter_in (stays_of leaving) l.cache.held h.0 h.1 stays)))) r.2)
    where
      in_kept : (h : Held) → In h l.cache.held → In h m.cache.held
      in_kept h i = (in_filter (stays_of gone) m.cache.held h (subst (λ (hs : List Held). In h hs)
          (kept m once tells zero tokens their l fids gone made so).held i)).0

  -- whether the status of the file is covered after it, and whether it is lost
  abbrev covers_after : Left → Bool
  covers_after z = covers_status fid (tokens_of z.cache.held)

  abbrev loses_it : Left → Bool
  loses_it z = is_lost fid leaving (record (with_left m z) { lost = lost })

  -- what is lost by it
  lost_so : (then_left : Left) → seen then_left.cache ≡ shown_without (seen l.cache) leaving
      → PartLost m tokens then_left more (lost_by (record (with_left m then_left) { lost = lost }))
  lost_so then_left shown = by_lost (loses_it then_left) refl
    where
      before_from : (f : Fid) → In f lost → In f m.lost ⊎ ((covers_status f (of_file f tokens) ≡ true)
          × (is_some m.call ≡ true) × (covers_status f (tokens_of then_left.cache.held) ≡ false))
      before_from f i = elim (losing.from f i) [
        | inl j ↦ inl j
        | inr r ↦ inr (
          r.0,
          r.1,
          elim (by_test (same_fid f fid)) [
            | inl e ↦ (let at = same_fid_is f fid e in
                subst (λ (z : Fid). covers_status z (tokens_of then_left.cache.held) ≡ false) (sym at)
                (none_after (subst (λ (z : Fid). covers_status z (tokens_of l.cache.held) ≡ false) at r.2)))
            | inr n ↦ status_kept then_left.cache shown f (λ e. true_false (same_fid f fid) (fid_same f fid e) n)
                ∙ r.2
          ],
        )
      ]
        where
          none_after : covers_status fid (tokens_of l.cache.held) ≡ false → covers_after then_left ≡ false
          none_after none = elim (by_test (covers_after then_left)) [
            | inr n ↦ n
            | inl e ↦ absurd (
                let r = in_any (λ (t : Token). same_fid t.fid fid && is_status t.kind)
                (tokens_of then_left.cache.held) e in
                true_false (covers_status fid (tokens_of l.cache.held))
                (any_in (λ (t : Token). same_fid t.fid fid && is_status t.kind) (tokens_of l.cache.held) r.0
                (fewer r.0 r.1) r.2) none)
          ]
            where
              fewer : (t : Token) → In t (tokens_of then_left.cache.held) → In t (tokens_of l.cache.held)
              fewer t i =
                  let k = left_by l.cache then_left.cache leaving shown
                  (λ h i e. tells h (in_filter (stays_of gone) m.cache.held h (subst (λ (hs : List Held). In h hs)
                  (kept m once tells zero tokens their l fids gone made so).held i)).0 e)
                  (λ g at le. (kept m once tells zero tokens their l fids gone made so).beyond g at le
                  ∙ zero g at le) in
                  let h = in_map (λ (h : Held). h.token) then_left.cache.held t i in
                  let q = in_filter (stays_of leaving) l.cache.held h.0
                  (subst (λ (hs : List Held). In h.0 hs) k.held h.1) in
                  subst (λ (t : Token). In t (tokens_of l.cache.held)) (sym h.2)
                  (map_in (λ (h : Held). h.token) l.cache.held h.0 q.0)

      before_new : (f : Fid) → In f fids → covers_status f (of_file f tokens) ≡ true → is_some m.call ≡ true
          → covers_status f (tokens_of then_left.cache.held) ≡ false → In f lost
      before_new f i some call none = losing.new f i some call
          (sym (status_kept then_left.cache shown f (λ e. fresh (subst (λ (z : Fid). In z fids) e i))) ∙ none)

      by_lost : (b : Bool) → loses_it then_left ≡ b → PartLost m tokens then_left more
          (if b then with_lost fid lost else lost)
      by_lost true e =
          let p = and_parts (covers_status fid leaving && is_some m.call) (not (covers_after then_left)) e in
          let q = and_parts (covers_status fid leaving) (is_some m.call) p.0 in record {
            old = λ f i. lost_keeps fid lost f (losing.old f i);
            from = λ f i. elim (lost_or fid lost f i) [
              | inl j ↦ before_from f j
              | inr at ↦ inr (subst (λ (z : Fid). (covers_status z (of_file z tokens) ≡ true)
                  × (is_some m.call ≡ true) × (covers_status z (tokens_of then_left.cache.held) ≡ false)) (sym at)
                  (q.0, q.1, not_false (covers_after then_left) p.1))
            ];
            new = λ f i some call none. elim (last_or fids fid f i) [
              | inl j ↦ lost_keeps fid lost f (before_new f j some call none)
              | inr at ↦ subst (λ (z : Fid). In z (with_lost fid lost)) (sym at) (lost_has fid lost)
            ];
          }
      by_lost false e = record {
        old = losing.old;
        from = before_from;
        new = λ f i some call none. elim (last_or fids fid f i) [
          | inl j ↦ before_new f j some call none
          | inr at ↦ absurd (true_false (loses_it then_left)
              (and_from (covers_status fid leaving && is_some m.call) (not (covers_after then_left))
              (and_from (covers_status fid leaving) (is_some m.call)
              (subst (λ (z : Fid). covers_status z (of_file z tokens) ≡ true) at some) call)
              (false_not (covers_after then_left) (subst (λ (z : Fid). covers_status z
              (tokens_of then_left.cache.held) ≡ false) at
              none))) e)
        ];
      }

  pub file_leaves : (y : Tables) (e : Draft)
      → Leaves x (start_by Revoked made gone sent due) fid leaving Revoked now_back y e
      → HasParted m tokens first asked all_back more (with_lost_where fid leaving y) e
  file_leaves y e its =
      let left = next_file.file_leaves Revoked m once tells zero tokens their first asked all_back now_back l lost fids
      gone made so sent due saying_so each tokens_once plain_first fid fresh backs now_all y e its in
      let h = left.0 in record {
        l = h.l;
        lost = lost_by (record (with_left m h.l) { lost = lost });
        gone = h.gone;
        made = h.made;
        sent = h.sent;
        due = h.due;
        tables = ap (with_lost_where fid leaving) h.tables ∙ lost_tables h.l;
        draft = h.draft;
        left = h.left;
        said = h.said;
        loses = lost_so h.l left.1;
        once = h.once;
      }
