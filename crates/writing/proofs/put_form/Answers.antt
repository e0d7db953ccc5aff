use Rattle.house_form.specs.House.{house_form_of}
use Rattle.writing.proofs.Pages.{no_room, fits, room_left}
use Rattle.writing.proofs.put_form.Goals as goal

pub form_length-n-requires : goal.form_length-n-requires
form_length-n-requires c = c.requires

pub returns-then-page-n : goal.returns-then-page-n
returns-then-page-n c = no_room (house_form_of c.args.text.now) c.args.page.now c.form_length-n.result c.form_length-n.ensures c.if-page-n.true

pub write_form-requires : goal.write_form-requires
write_form-requires c = (c.requires.1, fits (house_form_of c.args.text.now) c.args.page.now c.form_length-n.result c.form_length-n.ensures c.if-page-n.false)

pub returns : goal.returns
returns c = room_left (house_form_of c.args.text.now) c.args.page.now c.form_length-n.result c.form_length-n.ensures c.if-page-n.false _ c.write_form.ensures
