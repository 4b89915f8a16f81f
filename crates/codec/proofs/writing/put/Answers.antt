-- `writing::put` meets its contract: what is ready is what is asked for.
use Rattle.std.proofs.Common.{◌≡◌, sym, ◌∙◌, ap, arith, length}
use Rattle.codec.proofs.Texts.{not_ready, no_room, room, part-set}
use Rattle.codec.proofs.writing.put.Goals as goal

pub returns-in_default : goal.returns-in_default
returns-in_default c = λ b bytes e. not_ready bytes c.args.buf.now c.args.at b (sym c.in_default.is ∙ e)

pub returns-then-buf-at : goal.returns-then-buf-at
returns-then-buf-at c = λ b bytes e.
    no_room bytes c.args.buf.now c.args.at b c.in-Some.text (sym c.in-Some.is ∙ e) (omega arith)

pub returns-then-room-len : goal.returns-then-room-len
returns-then-room-len c = λ b bytes e.
    let whole : c.len-len.result ≡ length c.in-Some.text = c.len-len.ensures.value ∙ ap length c.text.view_is in
    no_room bytes c.args.buf.now c.args.at b c.in-Some.text (sym c.in-Some.is ∙ e) (omega arith)

pub returns : goal.returns
returns c = λ b bytes e.
    let whole : c.len-len.result ≡ length c.in-Some.text = c.len-len.ensures.value ∙ ap length c.text.view_is in
    let same = c.copy_from_slice.ensures.after ∙ c.as_slice.ensures.value ∙ c.text.view_is in
    room bytes c.args.buf.now c.args.at b c.in-Some.text _ c.len-len.result (sym c.in-Some.is ∙ e) (omega arith) whole (part-set c.args.at _ c.args.buf.now c.in-Some.text _ same (omega arith) (omega arith))
