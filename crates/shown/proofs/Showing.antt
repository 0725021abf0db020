-- A pool is shown part by part: each part has room, and together they are all that is shown. Assumes nothing.
use mathlib.Core.Path.{◌≡◌, refl, sym, ap, subst, ◌∙◌}
use mathlib.Core.List.{List, ◌++◌, map}
use Prim.Native.Nat.{ℕ}
use native.Mathlib.Omega.{arith}
use lib.Dec.{ltb}
use lib.ListN.{length, take}
use lib.Seq.{take_all}
use Rattle.words.specs.Halves.{all}
use Rattle.words.specs.Placed.{Room, Writes}
use Rattle.words.proofs.Placed.{writes-same, room-first, room-then, writes_then}
use Rattle.layout.specs.State.{Pool}
use Rattle.layout.specs.Limits.{STATEMENTS}
use Rattle.layout.specs.Memory.{name_words, decode}
use Rattle.layout.specs.Damage.{Framed}
use Rattle.layout.proofs.Sound.{Sound, sound-of}
use Rattle.layout.proofs.Holds.{decode-fits}
use Rattle.variables.specs.Variables.{Datum}
use Rattle.pen.specs.Pen.{entry}
use Rattle.order.specs.Places.{Places, Ordering, Orders, name_at, name_count}
use Rattle.order.proofs.Named.{length-names_at}
use Rattle.shown.specs.Shown.{VARIABLES, VALUES, names_in, values_of, counts, value_lines, shown}
use Rattle.shown.specs.Shows.{listed, lines_of, Counting, Counts, Valuing, Showing}
use Rattle.shown.specs.declared.Ends.{Ends}
use Rattle.shown.proofs.Together.{values-few}
use Rattle.shown.proofs.Held.{name-count, legible, ordered-names}

-- ---- the parts of what is shown

module _ (s : Pool) where
  abbrev heading : List ℕ
  heading = entry VARIABLES (length (names_in s))

  abbrev lines : List ℕ
  lines = counts s (names_in s)

  abbrev held : List Datum
  held = values_of s (names_in s)

  abbrev middle : List ℕ
  middle = entry VALUES (length held)

  parts : shown s ≡ heading ++ (lines ++ (middle ++ value_lines held))
  unfolding shown
  parts = refl

-- ---- each after the other

module _ (m out : List ℕ) (W : Showing m out) where
  abbrev s : Pool
  s = decode m

  abbrev last : List ℕ
  last = value_lines (held (decode m))

  undamaged : Sound m
  undamaged = sound-of m W.whole

  sized : Framed m
  sized = undamaged.sizes

  pub ordering : (names ps : List ℕ) → names ≡ name_words m → STATEMENTS ≡ length ps → Ordering names ps
  ordering names ps e l =
      subst (λ (ws : List ℕ). Ordering ws ps) (sym e)
      (record { names = legible m undamaged; room = omega (arith, name-count m undamaged, sized.statements) })

  module _ (names before : List ℕ) (e : names ≡ name_words m) (count : ℕ) (ps : List ℕ) (O : Orders names before count ps) where
    original : Places (name_words m) count ps
    original = subst (λ (ws : List ℕ). Places ws count ps) e O.places

    original-names : listed m count ps ≡ names_in s
    original-names =
        let o : Orders (name_words m) before count ps = subst (λ (ws : List ℕ). Orders ws before count ps) e O in
        o.names ∙ ordered-names m undamaged

    -- they alone
    abbrev first : List ℕ
    first = take count ps

    all-first : take (length first) first ≡ first
    all-first = take_all (length first) first (omega arith)

    places : Places (name_words m) (length first) first
    places =
        record {
          few = omega arith;
          within = ap (all (λ p. ltb p (name_count (name_words m)))) all-first ∙ original.within;
        }

    listed-names : listed m (length first) first ≡ names_in s
    listed-names = ap (map (name_at (name_words m))) all-first ∙ original-names

    counted : count ≡ length (names_in s)
    counted = sym (length-names_at (name_words m) count ps original) ∙ ap length original-names

    heads : entry VARIABLES count ≡ heading s
    heads = ap (entry VARIABLES) counted

    rooms : Room 0 (heading s ++ (lines s ++ (middle s ++ last))) out
    rooms = subst (λ (l : List ℕ). Room 0 l out) (parts s) W.room

    pub room-heading : Room 0 (entry VARIABLES count) out
    room-heading = subst (λ (l : List ℕ). Room 0 l out) (sym heads) (room-first (heading s) (lines s ++ (middle s ++ last)) rooms)

    module _ (a : ℕ) (x : List ℕ) (w : Writes 0 (entry VARIABLES count) out a x) where
      headed : Writes 0 (heading s) out a x
      headed = writes-same heads w

      room-lines : Room a (lines s ++ (middle s ++ last)) x
      room-lines = room-then (heading s) (lines s ++ (middle s ++ last)) rooms headed

      pub counting : Counting m (length first) first a x
      counting =
          record {
            within = places;
            room = subst (λ (ns : List (List ℕ)). Room a (counts s ns) x) (sym listed-names) (room-first (lines s) (middle s ++ last) room-lines);
            few = omega (arith, ap (λ (ns : List (List ℕ)). length (values_of s ns)) listed-names, values-few s, (decode-fits m undamaged).values);
          }

      module _ (ends : Ends) (y : List ℕ) (C : Counts m (listed m (length first) first) a x ends y) where
        total : entry VALUES ends.total ≡ middle s
        total = ap (entry VALUES) (C.total ∙ ap (λ (ns : List (List ℕ)). length (values_of s ns)) listed-names)

        lined : Writes a (lines s) x ends.at y
        lined = subst (λ (ns : List (List ℕ)). Writes a (counts s ns) x ends.at y) listed-names C.lines

        room-middle : Room ends.at (middle s ++ last) y
        room-middle = room-then (lines s) (middle s ++ last) room-lines lined

        pub room-total : Room ends.at (entry VALUES ends.total) y
        room-total = subst (λ (l : List ℕ). Room ends.at l y) (sym total) (room-first (middle s) last room-middle)

        module _ (b : ℕ) (z : List ℕ) (v : Writes ends.at (entry VALUES ends.total) y b z) where
          totalled : Writes ends.at (middle s) y b z
          totalled = writes-same total v

          last= : lines_of m (listed m (length first) first) ≡ last
          last= = ap (lines_of m) listed-names

          pub valuing : Valuing m (length first) first b z
          valuing =
              record {
                within = places;
                room = subst (λ (l : List ℕ). Room b l z) (sym last=) (room-then (middle s) last room-middle totalled);
              }

          pub all_shown : {r : ℕ} {o : List ℕ} → Writes b (lines_of m (listed m (length first) first)) z r o → Writes 0 (shown s) out r o
          all_shown u =
              writes-same (sym (parts s))
              (writes_then (heading s) (lines s ++ (middle s ++ last)) headed
              (writes_then (lines s) (middle s ++ last) lined (writes_then (middle s) last totalled (writes-same last= u))))
