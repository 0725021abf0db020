-- `show` meets its contract: the parts of what is shown are written one after the other. Assumes nothing.
use Rattle.shown.proofs.Showing.{ordering, room-heading, counting, room-total, valuing, all_shown}
use Rattle.shown.proofs.show.Goals as goal

pub order-count-requires : goal.order-count-requires
order-count-requires c =
    ordering _ _ c.requires _ _ c.names.ensures c.no_places-places.ensures

pub write_entry-lines-requires : goal.write_entry-lines-requires
write_entry-lines-requires c =
    room-heading _ _ c.requires _ _ c.names.ensures _ _ c.order-count.ensures

pub show_counts-ends-requires : goal.show_counts-ends-requires
show_counts-ends-requires c =
    counting _ _ c.requires _ _ c.names.ensures _ _ c.order-count.ensures _ _ c.write_entry-lines.ensures

pub write_entry-values-requires : goal.write_entry-values-requires
write_entry-values-requires c =
    room-total _ _ c.requires _ _ c.names.ensures _ _ c.order-count.ensures _ _ c.write_entry-lines.ensures _ _ c.show_counts-ends.ensures

pub show_values-requires : goal.show_values-requires
show_values-requires c =
    valuing _ _ c.requires _ _ c.names.ensures _ _ c.order-count.ensures _ _ c.write_entry-lines.ensures _ _ c.show_counts-ends.ensures _ _ c.write_entry-values.ensures

pub returns : goal.returns
returns c =
    all_shown _ _ c.requires _ _ c.names.ensures _ _ c.order-count.ensures _ _ c.write_entry-lines.ensures _ _ c.show_counts-ends.ensures _ _ c.write_entry-values.ensures
    c.show_values.ensures
