-- nodes that name one another, for take_out, put_on_top and put_at_bottom
pub mod Chains
-- lists without duplicates, for take_out
pub mod DistinctNumbers
-- the order through the nodes, for take_out, put_on_top, put_at_bottom and visible
pub mod Threads
-- who is right above and below, for above, below and hidden
pub mod Neighbours
-- the windows of panels, for set_window and the calls
pub mod Windows
-- the table after each call, for the calls
pub mod Tables
-- that the indexes follow the nodes, for Nodes::set_window and push
pub mod Indexes
-- the search for a number or a panel, for free_number and holder
pub mod Searches
