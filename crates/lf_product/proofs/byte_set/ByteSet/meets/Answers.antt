use Rattle.std.proofs.Common.{arith, ◌%◌, inl, inr}
use Rattle.lf_product.proofs.Bits.{or_cases, or_left, or_right, byte_from_bit, bit_from_byte, four_words}
use Rattle.lf_product.proofs.byte_set.ByteSet.meets.Goals as goal

pub returns-clause-yes : goal.returns-clause-yes
returns-clause-yes c = λ t.
    let s = c.args.self.now in
    let o = c.args.other.now in
    elim (or_cases _ c.share-fourth.result t) [
      | inl t ↦ elim (or_cases _ c.share-third.result t) [
        | inl t ↦ elim (or_cases c.share-first.result c.share-second.result t) [
          | inl t ↦ let h = c.share-first.ensures.yes t in byte_from_bit s o 0 h.0 (omega arith) h.1 h.2 h.3
          | inr t ↦ let h = c.share-second.ensures.yes t in byte_from_bit s o 1 h.0 (omega arith) h.1 h.2 h.3
        ]
        | inr t ↦ let h = c.share-third.ensures.yes t in byte_from_bit s o 2 h.0 (omega arith) h.1 h.2 h.3
      ]
      | inr t ↦ let h = c.share-fourth.ensures.yes t in byte_from_bit s o 3 h.0 (omega arith) h.1 h.2 h.3
    ]

pub returns-clause-no : goal.returns-clause-no
returns-clause-no c = λ b small ha hb.
    let s = c.args.self.now in
    let o = c.args.other.now in
    elim (four_words b small) [
      | inl e ↦ or_left _ c.share-fourth.result (or_left _ c.share-third.result (or_left c.share-first.result c.share-second.result (c.share-first.ensures.no (b % 64) (bit_from_byte s b 0 e ha) (bit_from_byte o b 0 e hb))))
      | inr (inl e) ↦ or_left _ c.share-fourth.result (or_left _ c.share-third.result (or_right c.share-first.result c.share-second.result (c.share-second.ensures.no (b % 64) (bit_from_byte s b 1 e ha) (bit_from_byte o b 1 e hb))))
      | inr (inr (inl e)) ↦ or_left _ c.share-fourth.result (or_right _ c.share-third.result (c.share-third.ensures.no (b % 64) (bit_from_byte s b 2 e ha) (bit_from_byte o b 2 e hb)))
      | inr (inr (inr e)) ↦ or_right _ c.share-fourth.result (c.share-fourth.ensures.no (b % 64) (bit_from_byte s b 3 e ha) (bit_from_byte o b 3 e hb))
    ]
